-- The place of a generator in a stream, after draws and searches.
use Rattle.std.proofs.Common.{◌≡◌, ℕ, suc, ◌⊎◌, inl, inr, subst, ◌+◌, ◌<◌, ◌≤◌, Bool, IsFalse, Option, Some, None, IfNone, IfSome, refl, sym, ap, ◌∙◌, arith, true, false, nat_le, nat_lt, if◌then◌else◌, zero, ◌%◌}
use Rattle.std.proofs.lemmas.Bool.Decides.{nat_tests}
use Rattle.gen1_rolls.specs.declared.rolls.Look.{Look}
use Rattle.gen1_rolls.specs.declared.rolls.Look.TheVariants.{Remainder}
use Rattle.gen1_rolls.specs.Draws.{Drawing, Source, StandsIn, Finds, IsFound, IsMissed, Misses}
use Rattle.gen1_rolls.specs.Streams.{sees, iterate, Stream, byte_at, span, first, IsStream, HoldsEveryByte, Sweep}
use Rattle.gen1_rolls.specs.Steady.{Generator, draws_of, stream_of, steady, FindsDraw, FindsNoDraw, StandsAt, one_up, sweep}
use Rattle.gen1_rolls.proofs.First.{first-same, first_within-is, first_within-none, iterate-add, byte-small, every_byte}

-- One more draw.
pub iterate-more : {A : Type 0} (f : A → A) (n : ℕ) (x : A) → iterate (n + 1) f x ≡ f (iterate n f x)
iterate-more f n x = ap (λ k. iterate k f x) (let e : n + 1 ≡ suc n = omega arith in e)

-- Any generator is at the beginning of its own stream.
pub stands_at_itself : {A : Type 0} (d : Generator A) (r : A) → StandsAt d r (stream_of d r) 0 r
unfolding byte_at
stands_at_itself d r = record { reached = refl; bytes = λ k. refl; spans = refl }

-- A generator's own stream keeps to the law of streams if each draw is a byte, and if a span of draws holds every
-- byte from each value that it reaches.
pub stream_of-is : {A : Type 0} (d : Generator A) (r : A) → ((n : ℕ) → d.byte (iterate n d.next r) < 256)
    → ((n : ℕ) → HoldsEveryByte (draws_of d (iterate n d.next r)) d.width) → IsStream (stream_of d r)
stream_of-is d r small full = (
  small,
  λ n b lt.
      let at = full n b lt in
      let swap : n + at.0 ≡ at.0 + n = omega arith in
      (at.0, (at.1.0, ap (λ k. d.byte (iterate k d.next r)) swap ∙ ap d.byte (iterate-add d.next n at.0 r) ∙ at.1.1)),
)

-- The byte that is drawn at n is the stream's.
pub byte_drawn : {A : Type 0} {d : Generator A} {origin : A} {s : Stream} {n : ℕ} {now : A} {b : ℕ}
    → StandsAt d origin s n now → b ≡ d.byte now → b ≡ byte_at s n
byte_drawn {d = d} {n = n} a e = e ∙ ap d.byte a.reached ∙ a.bytes n

-- A draw leads from n to n + 1.
pub stands_after_draw : {A : Type 0} {d : Generator A} {origin : A} {s : Stream} {n : ℕ} {now new : A}
    → StandsAt d origin s n now → new ≡ d.next now → StandsAt d origin s (n + 1) new
stands_after_draw {d = d} {origin = origin} {n = n} a e =
    record { reached = e ∙ ap d.next a.reached ∙ sym (iterate-more d.next n origin); bytes = a.bytes; spans = a.spans }

renamed : {A : Type 0} {d : Generator A} {origin : A} {s : Stream} {m n : ℕ} {now : A} → StandsAt d origin s m now → m ≡ n → StandsAt d origin s n now
renamed {d = d} {origin = origin} {s = s} {now = now} a e = subst (λ k. StandsAt d origin s k now) e a

-- k draws lead from n to n + k.
pub stands_after_draws : {A : Type 0} {d : Generator A} {origin : A} {s : Stream} {n : ℕ} {now new : A} (k : ℕ)
    → StandsAt d origin s n now → new ≡ iterate k d.next now → StandsAt d origin s (n + k) new
stands_after_draws {d = d} {origin = origin} {n = n} k a e =
    let swap : k + n ≡ n + k = omega arith in
    record {
      reached = e ∙ ap (iterate k d.next) a.reached ∙ sym (iterate-add d.next n k origin) ∙ ap (λ j. iterate j d.next origin) swap;
      bytes = a.bytes;
      spans = a.spans;
    }

-- The k-th draw from n on is the stream's.
pub draws_of-stands : {A : Type 0} {d : Generator A} {origin : A} {s : Stream} {n : ℕ} {now : A}
    → StandsAt d origin s n now → (k : ℕ) → draws_of d now k ≡ byte_at s (n + k)
draws_of-stands {d = d} {n = n} a k = let b = stands_after_draws k a refl in ap d.byte b.reached ∙ b.bytes (n + k)

-- A span of draws holds every byte.
pub draws_of-full : {A : Type 0} {d : Generator A} {origin : A} {s : Stream} {n : ℕ} {now : A}
    → StandsAt d origin s n now → IsStream s → HoldsEveryByte (draws_of d now) d.width
draws_of-full {s = s} {n = n} a is b lt =
    let at = every_byte s is n b lt in (at.0, (omega (arith, at.1.0, a.spans), draws_of-stands a at.0 ∙ at.1.1))

-- So its own stream keeps to the law too.
pub own_is_stream : {A : Type 0} {d : Generator A} {origin : A} {s : Stream} {n : ℕ} {now : A}
    → StandsAt d origin s n now → IsStream s → IsStream (stream_of d now)
own_is_stream {d = d} {s = s} {n = n} {now = now} a is =
    stream_of-is d now (λ k. rw (draws_of-stands a k) (byte-small s (n + k) is)) (λ k. draws_of-full (stands_after_draws k a refl) is)

-- If a search found a byte, `first` finds its place.
pub first-found : {A : Type 0} {d : Generator A} {origin : A} {s : Stream} {n : ℕ} {now : A} {test : ℕ → Bool} {b : ℕ} {new : A}
    → StandsAt d origin s n now → (f : FindsDraw d test now b new) → first s n test ≡ Some (n + f.passed)
unfolding first
first-found {s = s} {n = n} {test = test} a f =
    first_within-is (span s) s n test f.passed (omega (arith, f.within, a.spans)) (ap test (sym (draws_of-stands a f.passed)) ∙ f.first.meets)
    (λ i lt. ap test (sym (draws_of-stands a i)) ∙ f.first.none_before i (omega arith) lt)

-- The byte is the one at that place.
pub byte_found : {A : Type 0} {d : Generator A} {origin : A} {s : Stream} {n : ℕ} {now : A} {test : ℕ → Bool} {b : ℕ} {new : A}
    → StandsAt d origin s n now → (f : FindsDraw d test now b new) → b ≡ byte_at s (n + f.passed)
byte_found a f = f.is ∙ draws_of-stands a f.passed

-- The generator is then after that place.
pub stands_after_found : {A : Type 0} {d : Generator A} {origin : A} {s : Stream} {n : ℕ} {now : A} {test : ℕ → Bool} {b : ℕ} {new : A}
    → StandsAt d origin s n now → (f : FindsDraw d test now b new) → StandsAt d origin s (n + f.passed + 1) new
stands_after_found a f = renamed (stands_after_draws (f.passed + 1) a f.left) (omega arith)

-- If a search found no byte, `first` finds no place.
pub first-none : {A : Type 0} {d : Generator A} {origin : A} {s : Stream} {n : ℕ} {now : A} {test : ℕ → Bool} {new : A}
    → StandsAt d origin s n now → FindsNoDraw d test now new → first s n test ≡ None
unfolding first
first-none {s = s} {n = n} {test = test} a f =
    first_within-none (span s) s n test (λ i lt. ap test (sym (draws_of-stands a i)) ∙ f.none_drawn i (omega (arith, lt, a.spans)))

-- The generator is then after a whole span.
pub stands_after_none : {A : Type 0} {d : Generator A} {origin : A} {s : Stream} {n : ℕ} {now : A} {test : ℕ → Bool} {new : A}
    → StandsAt d origin s n now → FindsNoDraw d test now new → StandsAt d origin s (n + span s) new
stands_after_none {d = d} a f = renamed (stands_after_draws d.width a f.left) (omega (arith, a.spans))

-- What this is for a caller with any generator

pub finds_as : {A : Type 0} {d : Generator A} {test : ℕ → Bool} {old : A} {b : ℕ} {new : A} (look : Look)
    → b < 256 → FindsDraw d test old b new → Finds (steady d) test old b (λ x. sees look b ≡ sees look x) new
finds_as {test = test} {b = b} look small f = record {
  fits = small;
  meets = ap test f.is ∙ f.first.meets;
  on = λ since n a. record {
    place = n + f.passed;
    found = first-found a f;
    fits = subst (λ (x : ℕ). x < 256) (byte_found a f) small;
    is = ap (sees look) (byte_found a f);
    stands = stands_after_found a f;
  };
}

pub some_finds : {A : Type 0} (d : Generator A) (test : ℕ → Bool) (old new : A) (look : Look) (o : Option ℕ) → IfSome o (λ b. b < 256)
    → IfSome o (λ b. FindsDraw d test old b new) → IfSome o (λ b. Finds (steady d) test old b (λ x. sees look b ≡ sees look x) new)
some_finds d test old new look (Some b) small f = finds_as look small f
some_finds d test old new look None small f = tt

pub finds_none : {A : Type 0} {d : Generator A} {test : ℕ → Bool} {old new : A} → FindsNoDraw d test old new → Misses (steady d) test old new
finds_none f = record { none_meets = f.none_meets; on = λ since n a. record { none = first-none a f; stands = stands_after_none a f } }

pub none_finds : {A : Type 0} (d : Generator A) (test : ℕ → Bool) (old new : A) (o : Option ℕ)
    → IfNone o (FindsNoDraw d test old new) → IfNone o (Misses (steady d) test old new)
none_finds d test old new (Some b) f = tt
none_finds d test old new None f = finds_none f

-- Any generator

-- The same place, under another name for n.
pub stands_there : {A : Type 0} (d : Drawing A) (source : Source A) (now : A) {m n : ℕ} → StandsIn d source m now → m ≡ n → StandsIn d source n now
stands_there d source now a e = subst (λ k. StandsIn d source k now) e a

-- Two tests that return the same for each number find the same.
pub found_by : {A : Type 0} {d : Drawing A} {source : Source A} {n : ℕ} {p q : ℕ → Bool} {Is : ℕ → Type 0} {new : A} → ((b : ℕ) → p b ≡ q b)
    → IsFound d source n p Is new → IsFound d source n q Is new
found_by {source = source} {n = n} {p = p} {q = q} same x =
    record { place = x.place; found = sym (first-same source.stream n p q same) ∙ x.found; fits = x.fits; is = x.is; stands = x.stands }

pub missed_by : {A : Type 0} {d : Drawing A} {source : Source A} {n : ℕ} {p q : ℕ → Bool} {new : A} → ((b : ℕ) → p b ≡ q b)
    → IsMissed d source n p new → IsMissed d source n q new
missed_by {source = source} {n = n} {p = p} {q = q} same x = record { none = sym (first-same source.stream n p q same) ∙ x.none; stands = x.stands }

-- A byte of which all was looked at is the one of the stream.
pub exactly : {A : Type 0} {d : Drawing A} {test : ℕ → Bool} {old : A} {b : ℕ} {new : A}
    → Finds d test old b (λ x. sees (Remainder 256) b ≡ sees (Remainder 256) x) new → Finds d test old b (λ x. b ≡ x) new
exactly f = record {
  fits = f.fits;
  meets = f.meets;
  on = λ since n a. let x = f.on since n a in record { place = x.place; found = x.found; fits = x.fits; is = omega (arith, f.fits, x.fits, x.is); stands = x.stands };
}

-- Two tests are equal if the numbers that stand for them are.
abbrev pub as_number : Bool → ℕ
as_number b = if b then 1 else 0

pub same_test : (p q : Bool) → as_number p ≡ as_number q → p ≡ q
same_test true true e = refl
same_test false false e = refl
same_test true false e = absurd (omega (arith, e))
same_test false true e = absurd (omega (arith, e))

-- Of two bytes that are alike, both are below the bound or neither is.
pub alike_below : (x y bound : ℕ) → as_number (nat_lt x bound) ≡ as_number (nat_lt y bound) → nat_lt x bound ≡ nat_lt y bound
alike_below x y bound e = same_test (nat_lt x bound) (nat_lt y bound) e

pub alike_at_least : (x y bound : ℕ) → as_number (nat_lt x bound) ≡ as_number (nat_lt y bound) → nat_le bound x ≡ nat_le bound y
alike_at_least x y bound e = let same = alike_below x y bound e in grind (same, arith, nat_tests)

-- If a whole span fails the test, every byte fails it.
pub none_meets : (bytes : ℕ → ℕ) (p : ℕ → Bool) (span n : ℕ) → span ≤ n → HoldsEveryByte bytes span → ((k : ℕ) → k < n → IsFalse (p (bytes k)))
    → (b : ℕ) → b < 256 → IsFalse (p b)
none_meets bytes p span n long full failed b lt = let r = full b lt in ap p (sym r.1.1) ∙ failed r.0 (omega (arith, r.1.0))

none_or : (n : ℕ) → (n ≡ 0) ⊎ (0 < n)
none_or n = grind arith

-- If the draws hold every number at some place, they do from the first draw on.
pub full_from : {A : Type 0} (d : Generator A) (start now : A) (span n : ℕ) → now ≡ iterate n d.next start
    → (0 < n → HoldsEveryByte (draws_of d start) span) → HoldsEveryByte (draws_of d now) span → HoldsEveryByte (draws_of d start) span
full_from {A} d start now span n e before here =
    let P : A → Type 0 = λ x. HoldsEveryByte (draws_of d x) span in
    elim (none_or n) [ inl none ↦ subst P (e ∙ ap (λ k. iterate k d.next start) none) here | inr more ↦ before more ]

-- The draws of a sweep.

pub iterate-one_up : (k n : ℕ) → n < 256 → iterate k one_up n ≡ (n + k) % 256
iterate-one_up zero n lt = omega arith
iterate-one_up (suc k) n lt =
    let e : ((n + k) % 256 + 1) % 256 ≡ (n + suc k) % 256 = omega arith in ap one_up (iterate-one_up k n lt) ∙ e

-- A sweep is at the beginning of its stream.
pub sweep_stands : (n : ℕ) → n < 256 → StandsAt sweep n (Sweep n) 0 n
unfolding byte_at
sweep_stands n lt = record { reached = refl; bytes = λ k. iterate-one_up k n lt; spans = refl }

-- So its draws are a stream.
pub sweep_is_stream : (n : ℕ) → n < 256 → IsStream (stream_of sweep n)
sweep_is_stream n lt = own_is_stream (sweep_stands n lt) lt
