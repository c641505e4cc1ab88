-- What a generator promises of a draw and of a search, on each stream that agrees with the draws that it has noted
-- (docs/MECHANICS.md, "Link numbers").
--
-- A generator of any type is described by its `Drawing`. Under a bound `R: Rolls` this is `R.drawing`.
use Rattle.std.specs.Prelude.{◌≡◌, ℕ, ◌+◌, ◌<◌, Bool, IsFalse, IsTrue, Some, None}
use Rattle.std.specs.Borrow.{MutBor}
use denote.Triple.Both.{Both}
use Rattle.gen1_rolls.specs.declared.rolls.Look.{Look}
use Rattle.gen1_rolls.specs.Streams.{sees, Stream, byte_at, first, span}

-- A parameter `&mut T`, as an `ensures` has it: its value at the call and its value at the return.
abbrev pub Ref : Type 0 → Type 0
Ref T = Both (MutBor T) (MutBor T)

-- `stands origin s n now`: a generator that was `origin` at the beginning of the stream s is now `now`, and draws the n-th
-- byte of s next.
--
-- A generator may note each draw with its look. `agrees origin s now`: the stream s agrees with each draw that `now` has
-- noted since `origin`. `comes before now`: draws lead from `before` to `now`. Each generator defines all three.
pub record Drawing (A : Type 0) : Type 1 where
  pub stands : A → Stream → ℕ → A → Type 0
  pub agrees : A → Stream → A → Type 0
  pub comes : A → A → Type 0

-- No noted draw is forgotten from old to new: a stream that agrees with new also agrees with old. If draws led to old,
-- draws led to new.
pub record StepsTo {A : Type 0} (d : Drawing A) (old new : A) : Type 0 where
  pub later : (origin : A) (s : Stream) → d.agrees origin s new → d.agrees origin s old
  pub comes : (before : A) → d.comes before old → d.comes before new

-- The same for a parameter, as a clause names it.
abbrev pub Steps : {A : Type 0} → Drawing A → Ref A → Type 0
Steps d r = StepsTo d r.entry.now r.exit.now

-- The byte alone settles what a test can return for it.
abbrev pub Settles : (ℕ → Bool → Type 0) → (ℕ → Bool) → Type 0
Settles answers test = (x : ℕ) (answer : Bool) → x < 256 → answers x answer → answer ≡ test x

-- A generator's value at its origin, and a stream for it to draw from there.
pub record Source (A : Type 0) : Type 0 where
  pub origin : A
  pub stream : Stream

-- A source whose stream agrees with all draws that a generator has noted since its origin.
pub record Since {A : Type 0} (d : Drawing A) (now : A) : Type 0 where
  pub source : Source A
  pub agrees : d.agrees source.origin source.stream now

-- The same source, for an earlier generator: an operation that is followed by others gets it.
abbrev pub by_then : {A : Type 0} {d : Drawing A} {old new : A} → StepsTo d old new → Since d new → Since d old
by_then steps since =
    record { source = since.source; agrees = steps.later since.source.origin since.source.stream since.agrees }

-- A generator is at the n-th byte of its source.
abbrev pub StandsIn : {A : Type 0} → Drawing A → Source A → ℕ → A → Type 0
StandsIn d source n now = d.stands source.origin source.stream n now

-- The byte at n is as described, and the generator moves past it.
pub record IsNext {A : Type 0} (d : Drawing A) (source : Source A) (n : ℕ) (Is : ℕ → Type 0) (new : A) : Type 0 where
  pub is : Is (byte_at source.stream n)
  pub stands : StandsIn d source (n + 1) new

-- A draw: on each stream that agrees, and at any place in it, the next byte is as described.
abbrev pub NextByte : {A : Type 0} → Drawing A → Ref A → (ℕ → Type 0) → Type 0
NextByte d r Is =
    (since : Since d r.exit.now) (n : ℕ) → StandsIn d since.source n r.entry.now → IsNext d since.source n Is r.exit.now

-- A draw of the next byte, and one of a byte of which the look sees the same.
abbrev pub DrawsByte : {A : Type 0} → Drawing A → Ref A → ℕ → Type 0
DrawsByte d r b = NextByte d r (λ byte. b ≡ byte)

abbrev pub DrawsAs : {A : Type 0} → Drawing A → Look → Ref A → ℕ → Type 0
DrawsAs d look r b = NextByte d r (λ byte. sees look b ≡ sees look byte)

-- The first byte from n on that passes the test is as described, and the generator moves past it.
pub record IsFound {A : Type 0} (d : Drawing A) (source : Source A) (n : ℕ) (test : ℕ → Bool) (Is : ℕ → Type 0) (new : A) : Type 0 where
  pub place : ℕ
  pub found : first source.stream n test ≡ Some place
  pub fits : byte_at source.stream place < 256
  pub is : Is (byte_at source.stream place)
  pub stands : StandsIn d source (place + 1) new

-- A search that returns b: b passes the test, and on each stream that agrees, and at any place in it, the first byte that
-- passes is as described.
pub record Finds {A : Type 0} (d : Drawing A) (test : ℕ → Bool) (old : A) (b : ℕ) (Is : ℕ → Type 0) (new : A) : Type 0 where
  pub fits : b < 256
  pub meets : IsTrue (test b)
  pub on : (since : Since d new) (n : ℕ) → StandsIn d since.source n old → IsFound d since.source n test Is new

-- A search of the first byte that passes, and one of a byte of which the look sees the same.
abbrev pub FindsByte : {A : Type 0} → Drawing A → (ℕ → Bool) → Ref A → ℕ → Type 0
FindsByte d test r b = Finds d test r.entry.now b (λ byte. b ≡ byte) r.exit.now

abbrev pub FindsAs : {A : Type 0} → Drawing A → (ℕ → Bool) → Look → Ref A → ℕ → Type 0
FindsAs d test look r b = Finds d test r.entry.now b (λ byte. sees look b ≡ sees look byte) r.exit.now

-- No byte from n on passes the test, and the generator moves past a whole span.
pub record IsMissed {A : Type 0} (d : Drawing A) (source : Source A) (n : ℕ) (test : ℕ → Bool) (new : A) : Type 0 where
  pub none : first source.stream n test ≡ None
  pub stands : StandsIn d source (n + span source.stream) new

-- A search that returns none: no byte from 0 to 255 passes the test.
pub record Misses {A : Type 0} (d : Drawing A) (test : ℕ → Bool) (old new : A) : Type 0 where
  pub none_meets : (b : ℕ) → b < 256 → IsFalse (test b)
  pub on : (since : Since d new) (n : ℕ) → StandsIn d since.source n old → IsMissed d since.source n test new

abbrev pub FindsNone : {A : Type 0} → Drawing A → (ℕ → Bool) → Ref A → Type 0
FindsNone d test r = Misses d test r.entry.now r.exit.now
