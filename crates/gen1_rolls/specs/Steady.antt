-- Generators that note none of their draws, and their place in a stream (docs/MECHANICS.md, "Link numbers").
use Rattle.std.specs.Prelude.{◌≡◌, ℕ, ◌+◌, ◌<◌, Bool, IsFalse, ◌%◌, ◌/◌, ◌≤◌, List, ◌++◌, map, take, drop, slice_index, nat_lt, if◌then◌else◌}
use Rattle.gen1_rolls.specs.Draws.{Drawing, Source}
use Rattle.gen1_rolls.specs.Streams.{iterate, Stream, byte_at, span, IsFirstOf, Drawn, times_renewed}

-- The byte that a generator draws next, the generator after a draw, and how many draws in a row hold every byte.
pub record Generator (A : Type 0) : Type 0 where
  pub byte : A → ℕ
  pub next : A → A
  pub width : ℕ

-- The bytes that a generator draws, one after another.
abbrev pub draws_of : {A : Type 0} → Generator A → A → ℕ → ℕ
draws_of d r k = d.byte (iterate k d.next r)

-- Those bytes as a stream: the draws of a generator from its present value on.
abbrev pub stream_of : {A : Type 0} → Generator A → A → Stream
stream_of d r = Drawn (draws_of d r) d.width

-- A generator's own source: its draws from its present value on.
abbrev pub own_source : {A : Type 0} → Generator A → A → Source A
own_source d r = record { origin = r; stream = stream_of d r }

-- The generator `now` is `origin` after n draws, and `origin` draws the stream s.
--
-- Each generator is at some place of some stream. `stands_at_itself` of proofs/Standing.antt puts each value r at the
-- beginning of its own stream, `stream_of d r`. `draws_a_stream` says that this is a stream.
--
-- The clauses `stands` of `LinkRandom::new`, `LinkRandom::from_parts` and `Sweep::new` give a stream that is named by
-- data. proofs/Rings.antt has `ring_at-stands seed n`, for a generator with the index and numbers after n draws. Its
-- converse is `ring-stands a` : now ≡ ring_at seed n, so both are known after any operation.
pub record StandsAt {A : Type 0} (d : Generator A) (origin : A) (s : Stream) (n : ℕ) (now : A) : Type 0 where
  pub reached : now ≡ iterate n d.next origin
  pub bytes : (k : ℕ) → draws_of d origin k ≡ byte_at s k
  pub spans : d.width ≡ span s

-- What it promises. Every stream agrees with it.
abbrev pub steady : {A : Type 0} → Generator A → Drawing A
steady d =
    record { stands = λ origin s n now. StandsAt d origin s n now; agrees = λ origin s now. Unit {0}; comes = λ before now. Unit {0} }

-- From old on, a number of draws fail the test, and the next passes it. That draw is b, and leaves new.
pub record FindsDraw {A : Type 0} (d : Generator A) (test : ℕ → Bool) (old : A) (b : ℕ) (new : A) : Type 0 where
  pub passed : ℕ
  pub within : passed < d.width
  pub first : IsFirstOf (draws_of d old) 0 test passed
  pub is : b ≡ draws_of d old passed
  pub left : new ≡ iterate (passed + 1) d.next old

-- No byte passes the test, so a whole span of draws from old on fails it. They leave new.
pub record FindsNoDraw {A : Type 0} (d : Generator A) (test : ℕ → Bool) (old new : A) : Type 0 where
  pub none_meets : (b : ℕ) → b < 256 → IsFalse (test b)
  pub none_drawn : (k : ℕ) → k < d.width → IsFalse (test (draws_of d old k))
  pub left : new ≡ iterate d.width d.next old

-- A sweep, which is given by the byte that it draws next (docs/MECHANICS.md, "Link numbers").

-- The sweep after a draw.
abbrev pub one_up : ℕ → ℕ
one_up x = (x + 1) % 256

-- How it draws: any 256 draws in a row hold every byte.
abbrev pub sweep : Generator ℕ
sweep = record { byte = λ n. n; next = one_up; width = 256 }

-- The ring of numbers of a link battle's generator (docs/MECHANICS.md, "Link numbers").

-- Nine numbers that are drawn in turn, a tenth that is only kept, and the index of the next number.
pub record Ring : Type 0 where
  pub index : ℕ
  pub numbers : List ℕ

-- The nine numbers after this many renewals, and the tenth as it was.
abbrev pub turned : ℕ → List ℕ → List ℕ
turned times numbers = map (times_renewed times) (take 9 numbers) ++ drop 9 numbers

-- The byte that is drawn next.
abbrev pub byte_of : Ring → ℕ
byte_of ring = slice_index ring.numbers ring.index

-- The ring after a draw. All nine numbers are renewed together, after the ninth was drawn.
abbrev pub after_draw : Ring → Ring
after_draw ring =
    if nat_lt ring.index 8
    then record { index = ring.index + 1; numbers = ring.numbers }
    else record { index = 0; numbers = turned 1 ring.numbers }

-- How it draws: any 2304 draws in a row hold every byte.
abbrev pub link : Generator Ring
link = record { byte = byte_of; next = after_draw; width = 2304 }

-- The ring at the beginning of a battle.
abbrev pub ring_of : List ℕ → Ring
ring_of seed = record { index = 0; numbers = seed }

-- That ring after n draws.
abbrev pub ring_at : List ℕ → ℕ → Ring
ring_at seed n = record { index = n % 9; numbers = turned (n / 9) seed }

-- The nine numbers fail the test from a place on.
abbrev pub FailsFrom : ℕ → List ℕ → (ℕ → Bool) → Type 0
FailsFrom from numbers test = (k : ℕ) → from ≤ k → k < 9 → IsFalse (test (slice_index numbers k))
