-- Any span of a stream holds every byte. What `first` finds, and when it finds none.
use Rattle.std.proofs.Common.{◌≡◌, ℕ, zero, suc, ◌+◌, ◌-◌, ◌*◌, ◌/◌, ◌%◌, ◌<◌, ◌≤◌, List, Bool, true, false, ◌||◌, ◌&&◌, nat_eq, refl, sym, ap, ◌∙◌, arith, inl, inr, ◌⊎◌, rules, IsTrue, IsFalse, Option, Some, None, subst}
use Rattle.std.proofs.lemmas.Bool.{cases_eq}
use Rattle.std.proofs.lemmas.List.Elements.{All-get_or}
use Rattle.std.specs.Prelude.{slice_index}
use Rattle.gen1_rolls.specs.Streams.{iterate, renewed, Stream, byte_at, span, IsStream, HoldsEveryByte, Link, Sweep, Drawn, first_within, first, IsFirst}
use native.Mathlib.Decide.{ℕ_discrete}

-- Any span of a stream holds every byte. For link numbers, 5x + 1 modulo 256 has the full period, which one orbit
-- shows by computing.

-- Whether b is among the first n numbers from x on.
unfoldable pub finds : ℕ → ℕ → ℕ → Bool
finds zero x b = false
finds (suc n) x b = nat_eq x b || finds n (renewed x) b

-- Whether each number below n is among the first 256 from 0 on.
unfoldable pub finds_below : ℕ → Bool
finds_below zero = true
finds_below (suc n) = finds 256 0 n && finds_below n

pub found_all : finds_below 256 ≡ true
unfolding finds finds_below
found_all = refl

pub iterate-add : {A : Type 0} (f : A → A) (m n : ℕ) (x : A) → iterate (n + m) f x ≡ iterate n f (iterate m f x)
iterate-add f m zero x = ap (λ k. iterate k f x) (let e : 0 + m ≡ m = omega arith in e)
iterate-add f m (suc n) x =
    let e : suc n + m ≡ suc (n + m) = omega arith in
    ap (λ k. iterate k f x) e ∙ ap f (iterate-add f m n x)

-- The first application is taken out.
iterate-suc : {A : Type 0} (f : A → A) (n : ℕ) (x : A) → iterate (suc n) f x ≡ iterate n f (f x)
iterate-suc f n x = ap (λ k. iterate k f x) (let e : suc n ≡ n + 1 = omega arith in e) ∙ iterate-add f 1 n x

finds-or : (a b : Bool) → (a || b) ≡ true → (a ≡ true) ⊎ (b ≡ true)
finds-or true b h = inl refl
finds-or false b h = inr h

both : (a b : Bool) → (a && b) ≡ true → (a ≡ true) × (b ≡ true)
both true b h = (refl, h)
both false b h = cc

pub finds-reached : (n x b : ℕ) → finds n x b ≡ true → (k : ℕ) × ((k < n) × (iterate k renewed x ≡ b))
unfolding finds
finds-reached zero x b h = cc
finds-reached (suc n) x b h =
    elim (finds-or (nat_eq x b) (finds n (renewed x) b) h) [
      | inl here ↦ (0, (omega arith, search (here, rules)))
      | inr later ↦ let r = finds-reached n (renewed x) b later in (suc r.0, (omega (arith, r.1.0), iterate-suc renewed r.0 x ∙ r.1.1))
    ]

pub found_at : (n b : ℕ) → finds_below n ≡ true → b < n → finds 256 0 b ≡ true
unfolding finds_below
found_at zero b h lt = absurd (omega arith)
found_at (suc n) b h lt =
    let hs = both (finds 256 0 n) (finds_below n) h in
    elim (cases_eq b n) [ inl same ↦ rw same hs.0 | inr other ↦ found_at n b hs.1 (omega arith) ]

-- Each number is reached from 0 in fewer than 256 steps.
pub from_zero : (b : ℕ) → b < 256 → (k : ℕ) × ((k < 256) × (iterate k renewed 0 ≡ b))
from_zero b lt = finds-reached 256 0 b (found_at 256 b found_all lt)

period : iterate 256 renewed 0 ≡ 0
period = refl

-- Each number is reached from any number in fewer than 256 steps.
pub full_period : (x b : ℕ) → x < 256 → b < 256 → (k : ℕ) × ((k < 256) × (iterate k renewed x ≡ b))
full_period x b ltx ltb =
    let a = from_zero x ltx in
    let c = from_zero b ltb in
    elim (below_or a.0 c.0) [
      | inl le ↦ (
        c.0 - a.0,
        (
          omega (arith, c.1.0),
          ap (iterate (c.0 - a.0) renewed) (sym a.1.1) ∙ sym (iterate-add renewed a.0 (c.0 - a.0) 0)
              ∙ ap (λ k. iterate k renewed 0) (let e : c.0 - a.0 + a.0 ≡ c.0 = omega arith in e) ∙ c.1.1,
        ),
      )
      | inr gt ↦ (
        256 - a.0 + c.0,
        (
          omega (arith, a.1.0),
          ap (iterate (256 - a.0 + c.0) renewed) (sym a.1.1) ∙ sym (iterate-add renewed a.0 (256 - a.0 + c.0) 0)
              ∙ ap (λ k. iterate k renewed 0) (let e : 256 - a.0 + c.0 + a.0 ≡ c.0 + 256 = omega (arith, a.1.0) in e)
              ∙ iterate-add renewed 256 c.0 0 ∙ ap (iterate c.0 renewed) period ∙ c.1.1,
        ),
      )
    ]
  where
    below_or : (m n : ℕ) → (m ≤ n) ⊎ (n < m)
    below_or m n = grind arith

below_byte : (k x : ℕ) → x < 256 → iterate k renewed x < 256
below_byte zero x lt = lt
below_byte (suc k) x lt = omega arith

-- Each ninth byte of a link battle is the same number, renewed.
pub byte_at-rounds : (seed : List ℕ) (n r : ℕ) → byte_at (Link seed) (n + 9 * r) ≡ iterate r renewed (byte_at (Link seed) n)
unfolding byte_at
byte_at-rounds seed n r =
    let place : (n + 9 * r) % 9 ≡ n % 9 = omega arith in
    let rounds : (n + 9 * r) / 9 ≡ r + n / 9 = omega arith in
    ap (λ j. iterate ((n + 9 * r) / 9) renewed (slice_index seed j)) place ∙ ap (λ k. iterate k renewed (slice_index seed (n % 9))) rounds
    ∙ iterate-add renewed (n / 9) r (slice_index seed (n % 9))

-- A stream draws only bytes.
pub byte-small : (s : Stream) (n : ℕ) → IsStream s → byte_at s n < 256
unfolding byte_at
byte-small (Link seed) n is = below_byte (n / 9) (slice_index seed (n % 9)) (All-get_or (λ x. x < 256) seed (n % 9) 0 (omega (arith, is.0)) is.1)
byte-small (Sweep start) n is = omega arith
byte-small (Drawn bytes width) n is = is.0 n

-- A stream holds every byte within a span, from any place on.
pub every_byte : (s : Stream) → IsStream s → (n : ℕ) → HoldsEveryByte (λ k. byte_at s (n + k)) (span s)
unfolding byte_at
every_byte (Link seed) is n b lt =
    let number = All-get_or (λ x. x < 256) seed (n % 9) 0 (omega (arith, is.0)) is.1 in
    let r = full_period (byte_at (Link seed) n) b (below_byte (n / 9) (slice_index seed (n % 9)) number) lt in
    (9 * r.0, (omega (arith, r.1.0), byte_at-rounds seed n r.0 ∙ r.1.1))
every_byte (Sweep start) is n b lt =
    let k = (b + (256 - (start + n) % 256)) % 256 in
    let e : (start + (n + (b + (256 - (start + n) % 256)) % 256)) % 256 ≡ b = omega arith in
    (k, (omega arith, e))
every_byte (Drawn bytes width) is n b lt = is.1 n b lt

-- The search for the first of k places from n on, by its tests.
found_or : (k : ℕ) (s : Stream) (n : ℕ) (test : ℕ → Bool) (b : Bool) → test (byte_at s n) ≡ b
    → first_within (suc k) s n test ≡ elim b as (λ _. Option ℕ) [ true ↦ Some n | false ↦ first_within k s (n + 1) test ]
unfolding first_within
found_or k s n test b e = ap (λ (c : Bool). elim c as (λ _. Option ℕ) [ true ↦ Some n | false ↦ first_within k s (n + 1) test ]) e

-- The search finds a place whose byte passes the test if all bytes before it fail.
pub first_within-is : (k : ℕ) (s : Stream) (n : ℕ) (test : ℕ → Bool) (j : ℕ) → j < k → test (byte_at s (n + j)) ≡ true
    → ((i : ℕ) → i < j → test (byte_at s (n + i)) ≡ false) → first_within k s n test ≡ Some (n + j)
first_within-is zero s n test j lt meets before = absurd (omega arith)
first_within-is (suc k) s n test zero lt meets before =
    let here : n + 0 ≡ n = omega arith in
    found_or k s n test true (ap (λ m. test (byte_at s m)) (sym here) ∙ meets) ∙ ap (λ m. Some m) (sym here)
first_within-is (suc k) s n test (suc j) lt meets before =
    let here : n + 0 ≡ n = omega arith in
    let on : n + suc j ≡ n + 1 + j = omega arith in
    found_or k s n test false (ap (λ m. test (byte_at s m)) (sym here) ∙ before 0 (omega arith))
    ∙ first_within-is k s (n + 1) test j (omega arith) (ap (λ m. test (byte_at s m)) (sym on) ∙ meets)
    (λ i below. let same : n + 1 + i ≡ n + suc i = omega arith in ap (λ m. test (byte_at s m)) same ∙ before (suc i) (omega arith))
    ∙ ap (λ m. Some m) (sym on)

-- If all bytes fail the test, the search finds none.
pub first_within-none : (k : ℕ) (s : Stream) (n : ℕ) (test : ℕ → Bool) → ((i : ℕ) → i < k → test (byte_at s (n + i)) ≡ false) → first_within k s n test ≡ None
unfolding first_within
first_within-none zero s n test fails = refl
first_within-none (suc k) s n test fails =
    let here : n + 0 ≡ n = omega arith in
    found_or k s n test false (ap (λ m. test (byte_at s m)) (sym here) ∙ fails 0 (omega arith))
    ∙ first_within-none k s (n + 1) test (λ i below. let same : n + 1 + i ≡ n + suc i = omega arith in ap (λ m. test (byte_at s m)) same ∙ fails (suc i) (omega arith))

-- The result of a search for the first of k places.
pub record IsFoundWithin (k : ℕ) (s : Stream) (n : ℕ) (test : ℕ → Bool) (m : ℕ) : Type 0 where
  pub is : IsFirst s n test m
  pub within : m < n + k

-- If a test fails at n, and from n + 1 up to m, it fails from n up to m.
fails-one_more : (s : Stream) (n : ℕ) (test : ℕ → Bool) (m : ℕ) → IsFalse (test (byte_at s n))
    → ((j : ℕ) → n + 1 ≤ j → j < m → IsFalse (test (byte_at s j)))
    → (j : ℕ) → n ≤ j → j < m → IsFalse (test (byte_at s j))
fails-one_more s n test m here later j low high = by (ℕ_discrete n j)
  where
    by : Dec (n ≡ j) → IsFalse (test (byte_at s j))
    by (yes e) = rw e at here
    by (no d) = later j (omega arith) high

pub first_within-finds : (k : ℕ) (s : Stream) (n : ℕ) (test : ℕ → Bool) (m : ℕ) → first_within k s n test ≡ Some m → IsFoundWithin k s n test m
unfolding first_within
first_within-finds zero s n test m h = absurd (cc)
first_within-finds (suc k) s n test m h = by (test (byte_at s n)) refl h (first_within-finds k s (n + 1) test m)
  where
    by : (b : Bool) → test (byte_at s n) ≡ b → elim b as (λ _. Option ℕ) [ true ↦ Some n | false ↦ first_within k s (n + 1) test ] ≡ Some m
        → (first_within k s (n + 1) test ≡ Some m → IsFoundWithin k s (n + 1) test m) → IsFoundWithin (suc k) s n test m
    by true e g rest = let same : n ≡ m = cc in subst (IsFoundWithin (suc k) s n test) same
        (record { is = record { from = omega arith; meets = e; none_before = λ j low high. absurd (omega arith) }; within = omega arith })
    by false e g rest = let r = rest g in
        record { is = record { from = omega (arith, r.is.from); meets = r.is.meets; none_before = fails-one_more s n test m e r.is.none_before }; within = omega (arith, r.within) }

-- If the search finds none, all of its places fail the test.
pub first_within-fails : (k : ℕ) (s : Stream) (n : ℕ) (test : ℕ → Bool) → first_within k s n test ≡ None
    → (j : ℕ) → n ≤ j → j < n + k → IsFalse (test (byte_at s j))
unfolding first_within
first_within-fails zero s n test h = λ j low high. absurd (omega arith)
first_within-fails (suc k) s n test h = by (test (byte_at s n)) refl h (first_within-fails k s (n + 1) test)
  where
    by : (b : Bool) → test (byte_at s n) ≡ b → elim b as (λ _. Option ℕ) [ true ↦ Some n | false ↦ first_within k s (n + 1) test ] ≡ None
        → (first_within k s (n + 1) test ≡ None → (j : ℕ) → n + 1 ≤ j → j < n + 1 + k → IsFalse (test (byte_at s j)))
        → (j : ℕ) → n ≤ j → j < n + suc k → IsFalse (test (byte_at s j))
    by true e g rest = absurd (cc)
    by false e g rest = λ j low high. fails-one_more s n test (n + suc k) e (λ i l h. rest g i l (omega arith)) j low high

-- What `first` finds is as `IsFirst` says, and within a span.
pub first-finds : (s : Stream) (n : ℕ) (test : ℕ → Bool) (m : ℕ) → first s n test ≡ Some m → IsFirst s n test m
unfolding first
first-finds s n test m h = (first_within-finds (span s) s n test m h).is

pub first-within : (s : Stream) (n : ℕ) (test : ℕ → Bool) (m : ℕ) → first s n test ≡ Some m → m < n + span s
unfolding first
first-within s n test m h = (first_within-finds (span s) s n test m h).within

-- If `first` finds none, a whole span fails the test.
pub first-fails : (s : Stream) (n : ℕ) (test : ℕ → Bool) → first s n test ≡ None → (j : ℕ) → n ≤ j → j < n + span s → IsFalse (test (byte_at s j))
unfolding first
first-fails s n test h = first_within-fails (span s) s n test h

-- So every byte fails the test.
pub first-fails_all : (s : Stream) → IsStream s → (n : ℕ) (test : ℕ → Bool) → first s n test ≡ None → (b : ℕ) → b < 256 → IsFalse (test b)
first-fails_all s is n test h b lt =
    let at = every_byte s is n b lt in ap test (sym at.1.1) ∙ first-fails s n test h (n + at.0) (omega arith) (omega (arith, at.1.0))

-- If a byte passes the test, `first` finds a place.
pub first-exists : (s : Stream) → IsStream s → (n : ℕ) (test : ℕ → Bool) (b : ℕ) → b < 256 → IsTrue (test b) → (m : ℕ) × (first s n test ≡ Some m)
first-exists s is n test b lt meets = by (first s n test) refl
  where
    by : (o : Option ℕ) → first s n test ≡ o → (m : ℕ) × (first s n test ≡ Some m)
    by None e = let fails = first-fails_all s is n test e b lt in absurd (cc)
    by (Some m) e = (m, e)

-- Two tests that return the same for each number find the same.
first_within-same : (k : ℕ) (s : Stream) (n : ℕ) (p q : ℕ → Bool) → ((b : ℕ) → p b ≡ q b) → first_within k s n p ≡ first_within k s n q
unfolding first_within
first_within-same zero s n p q same = refl
first_within-same (suc k) s n p q same =
    found_or k s n p (q (byte_at s n)) (same (byte_at s n))
    ∙ ap (λ (o : Option ℕ). elim (q (byte_at s n)) as (λ _. Option ℕ) [ true ↦ Some n | false ↦ o ]) (first_within-same k s (n + 1) p q same)

pub first-same : (s : Stream) (n : ℕ) (p q : ℕ → Bool) → ((b : ℕ) → p b ≡ q b) → first s n p ≡ first s n q
unfolding first
first-same s n p q same = first_within-same (span s) s n p q same
