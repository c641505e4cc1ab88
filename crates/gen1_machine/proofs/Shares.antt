-- The shares of a tree are probabilities.
use Rattle.std.proofs.Common.{Bool, IsFalse, IsTrue, None, Option, Some, ap, ap₂, arith, false, if◌then◌else◌, inl, inr, refl, subst, suc, sym, true, zero, ℕ, ◌*◌, ◌+◌, ◌/◌, ◌<◌, ◌==◌, ◌∙◌, ◌≡◌, ◌≤◌, ◌⊎◌, ◌||◌}
use Rattle.std.proofs.lemmas.Bool.{false≢true}
use Rattle.std.proofs.Math.Nat.{mul-div_cancel_left, mul_assoc, mul_comm}
use Rattle.std.proofs.lemmas.Nat.{mul-le}
use Rattle.gen1_rolls.specs.Streams.{byte_at, first, span, Drawn, IsStream, Stream}
use Rattle.gen1_rolls.proofs.First.{first-fails_all, first-finds, first_within-is, first_within-none, byte-small}
use Rattle.gen1_machine.specs.State.{Field}
use Rattle.gen1_machine.specs.Progress.{Progress}
use Rattle.gen1_machine.specs.Laws.{count_of, leads_to, sum_below, sum_over, Done, Draw, IsDealt, IsShare, Search, SharesAreProbabilities, Tree}

-- Sums

pub below-same : (n : ℕ) (f g : ℕ → ℕ) → ((b : ℕ) → b < n → f b ≡ g b) → sum_below n f ≡ sum_below n g
unfolding sum_below
below-same zero f g h = refl
below-same (suc n) f g h = ap₂ (λ (x y : ℕ). x + y) (below-same n f g (λ b lt. h b (omega (arith, lt)))) (h n (omega arith))

below-part : (n b : ℕ) (f : ℕ → ℕ) → b < n → f b ≤ sum_below n f
unfolding sum_below
below-part zero b f lt = absurd (omega (arith, lt))
below-part (suc n) b f lt = elim (last b n lt) [
  | inl e ↦ subst (λ (x : ℕ). f x ≤ sum_below n f + f n) (sym e) (omega arith)
  | inr below ↦ let more = below-part n b f below in omega (arith, more)
]
  where
    last : (b n : ℕ) → b < suc n → (b ≡ n) ⊎ (b < n)
    last b n lt = grind arith

-- A sum above 0 has a part above 0.
below-some : (n : ℕ) (f : ℕ → ℕ) → 0 < sum_below n f → (b : ℕ) × ((b < n) × (0 < f b))
unfolding sum_below
below-some zero f lt = absurd (omega (arith, lt))
below-some (suc n) f lt = elim (some (f n)) [
  | inl here ↦ (n, (omega arith, here))
  | inr none ↦ let more = below-some n f (omega (arith, lt, none)) in (more.0, (omega (arith, more.1.0), more.1.1))
]
  where
    some : (x : ℕ) → (0 < x) ⊎ (x ≡ 0)
    some x = grind arith

pub below-times : (n : ℕ) (f : ℕ → ℕ) (each : ℕ) → sum_below n (λ b. f b * each) ≡ sum_below n f * each
unfolding sum_below
below-times zero f each = omega arith
below-times (suc n) f each = let before = below-times n f each in grind (arith, before)

abbrev pub if_so : Bool → ℕ → ℕ
if_so t x = if t then x else 0

-- Of the bytes that pass
over-same : (test : ℕ → Bool) (f g : ℕ → ℕ) → ((b : ℕ) → b < 256 → IsTrue (test b) → f b ≡ g b) → sum_over test f ≡ sum_over test g
over-same test f g h = below-same 256 _ _ (λ b lt. by b (test b) (h b lt))
  where
    by : (b : ℕ) (t : Bool) → (IsTrue t → f b ≡ g b) → if_so t (f b) ≡ if_so t (g b)
    by b true e = e refl
    by b false e = refl

pub over-times : (test : ℕ → Bool) (each : ℕ) → sum_over test (λ b. each) ≡ count_of test * each
over-times test each = below-same 256 _ _ (λ b lt. by (test b)) ∙ below-times 256 (λ b. if_so (test b) 1) each
  where
    by : (t : Bool) → if_so t each ≡ if_so t 1 * each
    by true = omega arith
    by false = omega arith

pub over-some : (test : ℕ → Bool) (f : ℕ → ℕ) → 0 < sum_over test f → (b : ℕ) × ((b < 256) × ((IsTrue (test b)) × (0 < f b)))
over-some test f lt = let found = below-some 256 (λ b. if_so (test b) (f b)) lt in (found.0, (found.1.0, by (test found.0) (f found.0) found.1.1))
  where
    by : (t : Bool) (x : ℕ) → 0 < if_so t x → IsTrue t × (0 < x)
    by true x h = (refl, h)
    by false x h = absurd (omega (arith, h))

over-part : (test : ℕ → Bool) (f : ℕ → ℕ) (b : ℕ) → b < 256 → IsTrue (test b) → f b ≤ sum_over test f
over-part test f b lt is = subst (λ (t : Bool). if_so t (f b) ≤ sum_over test f) is (below-part 256 b (λ b. if_so (test b) (f b)) lt)

ones : (n : ℕ) → sum_below n (λ b. 1) ≡ n
unfolding sum_below
ones zero = refl
ones (suc n) = let before = ones n in omega (arith, before)

pub all-count : count_of (λ b. true) ≡ 256
all-count = ones 256

some-all : 0 < count_of (λ b. true)
some-all = omega (arith, all-count)

-- What is dealt out

same-each : (c e f whole : ℕ) → 0 < c → c * e ≡ whole → c * f ≡ whole → e ≡ f
same-each c e f whole some h k = sym (mul-div_cancel_left e some) ∙ ap (λ (x : ℕ). x / c) (h ∙ sym k) ∙ mul-div_cancel_left f some

dealt-one : {test : ℕ → Bool} {P : ℕ → ℕ → ℕ → Type 0} {whole m n : ℕ} → 0 < count_of test → ((b w i j : ℕ) → P b w i → P b w j → i ≡ j)
    → IsDealt test P whole m → IsDealt test P whole n → m ≡ n
dealt-one {test} {P} {whole} some same d e =
    let each : d.each ≡ e.each = same-each (count_of test) d.each e.each whole some d.equal e.equal in
    sym d.sum ∙ over-same test d.part e.part (λ b lt is. same b e.each (d.part b) (e.part b) (subst (λ (x : ℕ). P b x (d.part b)) each (d.parts b lt is)) (e.parts b lt is)) ∙ e.sum

dealt-all : {test : ℕ → Bool} {P : ℕ → ℕ → ℕ → Type 0} {whole n : ℕ} → ((b w i : ℕ) → P b w i → i ≡ w) → IsDealt test P whole n → n ≡ whole
dealt-all {test} same d =
    sym d.sum ∙ over-same test d.part (λ b. d.each) (λ b lt is. same b d.each (d.part b) (d.parts b lt is)) ∙ over-times test d.each ∙ d.equal

pub share-one : (t : Tree) (passes : Field → Bool) (whole m n : ℕ) → IsShare t passes whole m → IsShare t passes whole n → m ≡ n
unfolding IsShare
share-one (Done left) passes whole m n h k = h ∙ sym k
share-one (Draw next) passes whole m n h k = dealt-one some-all (λ b. share-one (next b) passes) h k
share-one (Search test found none) passes whole m n (inl (some, h)) (inl (more, k)) = dealt-one some (λ b. share-one (found b) passes) h k
share-one (Search test found none) passes whole m n (inl (some, h)) (inr (none_passes, k)) = absurd (omega (arith, some, none_passes))
share-one (Search test found none) passes whole m n (inr (none_passes, h)) (inl (some, k)) = absurd (omega (arith, some, none_passes))
share-one (Search test found none) passes whole m n (inr (none_passes, h)) (inr (also, k)) = share-one none passes whole m n h k

share-all : (t : Tree) (whole n : ℕ) → IsShare t (λ f. true) whole n → n ≡ whole
unfolding IsShare
share-all (Done left) whole n h = h
share-all (Draw next) whole n h = dealt-all (λ b. share-all (next b)) h
share-all (Search test found none) whole n (inl (some, h)) = dealt-all (λ b. share-all (found b)) h
share-all (Search test found none) whole n (inr (none_passes, h)) = share-all none whole n h

-- Shares of what excludes each other

pub below-plus : (n : ℕ) (f g : ℕ → ℕ) → sum_below n (λ b. f b + g b) ≡ sum_below n f + sum_below n g
unfolding sum_below
below-plus zero f g = refl
below-plus (suc n) f g = let before = below-plus n f g in omega (arith, before)

over-plus : (test : ℕ → Bool) (f g : ℕ → ℕ) → sum_over test (λ b. f b + g b) ≡ sum_over test f + sum_over test g
over-plus test f g =
    below-same 256 _ _ (λ b lt. by (test b) (f b) (g b)) ∙ below-plus 256 (λ b. if_so (test b) (f b)) (λ b. if_so (test b) (g b))
  where
    by : (t : Bool) (x y : ℕ) → if_so t (x + y) ≡ if_so t x + if_so t y
    by true x y = refl
    by false x y = refl

dealt-sum : {test : ℕ → Bool} {P Q R : ℕ → ℕ → ℕ → Type 0} {whole m n : ℕ} → 0 < count_of test
    → ((b w i j : ℕ) → P b w i → Q b w j → R b w (i + j)) → IsDealt test P whole m → IsDealt test Q whole n → IsDealt test R whole (m + n)
dealt-sum {test} {P} {Q} {R} {whole} some sums d e =
    let each : e.each ≡ d.each = same-each (count_of test) e.each d.each whole some e.equal d.equal in
    record {
      each = d.each;
      part = λ b. d.part b + e.part b;
      equal = d.equal;
      parts = λ b lt is. sums b d.each (d.part b) (e.part b) (d.parts b lt is) (subst (λ (x : ℕ). Q b x (e.part b)) each (e.parts b lt is));
      sum = over-plus test d.part e.part ∙ ap₂ (λ (x y : ℕ). x + y) d.sum e.sum;
    }

share-sum : (t : Tree) (one other : Field → Bool) → ((f : Field) → one f ≡ true → other f ≡ false) → (whole m n : ℕ)
    → IsShare t one whole m → IsShare t other whole n → IsShare t (λ f. one f || other f) whole (m + n)
unfolding IsShare
share-sum (Done left) one other apart whole m n h k = ap₂ (λ (x y : ℕ). x + y) h k ∙ by (one left.field) (other left.field) (apart left.field)
  where
    by : (p q : Bool) → (p ≡ true → q ≡ false) → if_so p whole + if_so q whole ≡ if_so (p || q) whole
    by true true e = absurd (false≢true (sym (e refl)))
    by true false e = omega arith
    by false true e = omega arith
    by false false e = omega arith
share-sum (Draw next) one other apart whole m n h k = dealt-sum some-all (λ b. share-sum (next b) one other apart) h k
share-sum (Search test found none) one other apart whole m n (inl (some, h)) (inl (more, k)) =
    inl (some, dealt-sum some (λ b. share-sum (found b) one other apart) h k)
share-sum (Search test found none) one other apart whole m n (inl (some, h)) (inr (none_passes, k)) = absurd (omega (arith, some, none_passes))
share-sum (Search test found none) one other apart whole m n (inr (none_passes, h)) (inl (some, k)) = absurd (omega (arith, some, none_passes))
share-sum (Search test found none) one other apart whole m n (inr (none_passes, h)) (inr (also, k)) =
    inr (none_passes, share-sum none one other apart whole m n h k)

-- What a stream leads to has a share.

some-each : (c e whole : ℕ) → c * e ≡ whole → 0 < whole → 0 < e
some-each c zero whole h some = absurd (omega (arith, h, some))
some-each c (suc e) whole h some = omega arith

dealt-leads : {test : ℕ → Bool} {P : ℕ → ℕ → ℕ → Type 0} {whole n : ℕ} (b : ℕ) → b < 256 → IsTrue (test b) → 0 < whole
    → ((w i : ℕ) → P b w i → 0 < w → 0 < i) → IsDealt test P whole n → 0 < n
dealt-leads {test} {whole = whole} b lt is some led d =
    let here : 0 < d.part b = led d.each (d.part b) (d.parts b lt is) (some-each (count_of test) d.each whole d.equal some) in
    let most : d.part b ≤ sum_over test d.part = over-part test d.part b lt is in
    omega (arith, here, most, d.sum)

-- A byte that passes is counted.
pub counted : (test : ℕ → Bool) (b : ℕ) → b < 256 → IsTrue (test b) → 0 < count_of test
counted test b lt is = let one = over-part test (λ b. 1) b lt is in omega (arith, one)

share-leads : (t : Tree) (passes : Field → Bool) (whole n : ℕ) → IsShare t passes whole n → 0 < whole
    → (s : Stream) (k : ℕ) → IsStream s → passes (leads_to t s k).field ≡ true → 0 < n
unfolding IsShare leads_to
share-leads (Done left) passes whole n h some s k is met = by (passes left.field) met h
  where
    by : (b : Bool) → b ≡ true → n ≡ (if b then whole else 0) → 0 < n
    by true e h = omega (arith, h, some)
    by false e h = absurd (false≢true e)
share-leads (Draw next) passes whole n h some s k is met =
    dealt-leads (byte_at s k) (byte-small s k is) refl some (λ w i part more. share-leads (next (byte_at s k)) passes w i part more s (k + 1) is met) h
share-leads (Search test found none) passes whole n h some s k is met =
    by (first s k test) refl h met (λ m w i part more. share-leads (found (byte_at s m)) passes w i part more s (m + 1) is)
    (λ part. share-leads none passes whole n part some s (k + span s) is)
  where
    by : (o : Option ℕ) → first s k test ≡ o
        → ((0 < count_of test) × IsDealt test (λ b. IsShare (found b) passes) whole n) ⊎ ((count_of test ≡ 0) × IsShare none passes whole n)
        → passes (elim o as (λ _. Progress) [ Some m ↦ leads_to (found (byte_at s m)) s (m + 1) | None ↦ leads_to none s (k + span s) ]).field ≡ true
        → ((m w i : ℕ) → IsShare (found (byte_at s m)) passes w i → 0 < w → passes (leads_to (found (byte_at s m)) s (m + 1)).field ≡ true → 0 < i)
        → (IsShare none passes whole n → passes (leads_to none s (k + span s)).field ≡ true → 0 < n) → 0 < n
    by (Some m) e (inl (few, d)) met one rest =
        dealt-leads (byte_at s m) (byte-small s m is) (first-finds s k test m e).meets some (λ w i part more. one m w i part more met) d
    by (Some m) e (inr (none_passes, d)) met one rest =
        let few = counted test (byte_at s m) (byte-small s m is) (first-finds s k test m e).meets in absurd (omega (arith, few, none_passes))
    by None e (inl (few, d)) met one rest =
        let found = over-some test (λ b. 1) few in absurd (false≢true (sym (first-fails_all s is k test e found.0 found.1.0) ∙ found.1.1.0))
    by None e (inr (none_passes, d)) met one rest = rest d met

-- Some bytes lead to what has a share.

unfoldable then_bytes : ℕ → (ℕ → ℕ) → ℕ → ℕ
then_bytes b f zero = b
then_bytes b f (suc i) = f i

then-small : (b : ℕ) (f : ℕ → ℕ) → b < 256 → ((i : ℕ) → f i < 256) → (i : ℕ) → then_bytes b f i < 256
unfolding then_bytes
then-small b f lt h zero = lt
then-small b f lt h (suc i) = h i

unfoldable after_zeros : ℕ → (ℕ → ℕ) → ℕ → ℕ
after_zeros zero f i = f i
after_zeros (suc w) f zero = 0
after_zeros (suc w) f (suc i) = after_zeros w f i

zeros-small : (w : ℕ) (f : ℕ → ℕ) → ((i : ℕ) → f i < 256) → (i : ℕ) → after_zeros w f i < 256
unfolding after_zeros
zeros-small zero f h i = h i
zeros-small (suc w) f h zero = omega arith
zeros-small (suc w) f h (suc i) = zeros-small w f h i

zeros-before : (w : ℕ) (f : ℕ → ℕ) (i : ℕ) → i < w → after_zeros w f i ≡ 0
unfolding after_zeros
zeros-before zero f i lt = absurd (omega (arith, lt))
zeros-before (suc w) f zero lt = refl
zeros-before (suc w) f (suc i) lt = zeros-before w f i (omega (arith, lt))

zeros-after : (w : ℕ) (f : ℕ → ℕ) (i : ℕ) → after_zeros w f (w + i) ≡ f i
unfolding after_zeros
zeros-after zero f i = let e : 0 + i ≡ i = omega arith in ap f e
zeros-after (suc w) f i = let e : suc w + i ≡ suc (w + i) = omega arith in ap (after_zeros (suc w) f) e ∙ zeros-after w f i

-- Where no byte passes, each fails.
fails : (test : ℕ → Bool) (b : ℕ) → count_of test ≡ 0 → b < 256 → IsFalse (test b)
fails test b none lt = by (test b) refl
  where
    by : (t : Bool) → test b ≡ t → t ≡ false
    by true e = let few = counted test b lt e in absurd (omega (arith, few, none))
    by false e = refl

-- A stream with this span has these bytes from here on.
record Has (f : ℕ → ℕ) (width : ℕ) (s : Stream) (k : ℕ) : Type 0 where
  pub wide : span s ≡ width
  pub bytes : (i : ℕ) → byte_at s (k + i) ≡ f i

has-first : (b : ℕ) (f : ℕ → ℕ) (width : ℕ) (s : Stream) (k : ℕ) → Has (then_bytes b f) width s k → byte_at s k ≡ b
unfolding then_bytes
has-first b f width s k h = let e : k + 0 ≡ k = omega arith in ap (byte_at s) (sym e) ∙ h.bytes 0

has-later : (b : ℕ) (f : ℕ → ℕ) (width : ℕ) (s : Stream) (k : ℕ) → Has (then_bytes b f) width s k → Has f width s (k + 1)
unfolding then_bytes
has-later b f width s k h = record {
  wide = h.wide;
  bytes = λ i. let e : k + 1 + i ≡ k + suc i = omega arith in ap (byte_at s) e ∙ h.bytes (suc i);
}

has-after : (f : ℕ → ℕ) (width : ℕ) (s : Stream) (k : ℕ) → Has (after_zeros width f) width s k → Has f width s (k + span s)
has-after f width s k h = record {
  wide = h.wide;
  bytes = λ i. let e : k + span s + i ≡ k + (width + i) = omega (arith, h.wide) in ap (byte_at s) e ∙ h.bytes (width + i) ∙ zeros-after width f i;
}

pub first-here : (s : Stream) (k : ℕ) (test : ℕ → Bool) → 0 < span s → test (byte_at s k) ≡ true → first s k test ≡ Some k
unfolding first
first-here s k test wide met =
    let e : k + 0 ≡ k = omega arith in
    first_within-is (span s) s k test 0 wide (ap (λ j. test (byte_at s j)) e ∙ met) (λ i lt. absurd (omega (arith, lt))) ∙ ap (λ j. Some j) e

first-none : (s : Stream) (k : ℕ) (test : ℕ → Bool) (f : ℕ → ℕ) (width : ℕ) → count_of test ≡ 0 → Has (after_zeros width f) width s k → first s k test ≡ None
unfolding first
first-none s k test f width none h =
    first_within-none (span s) s k test
    (λ i lt. ap test (h.bytes i ∙ zeros-before width f i (omega (arith, lt, h.wide))) ∙ fails test 0 none (omega arith))

-- Some bytes lead there.
record Led (t : Tree) (passes : Field → Bool) (width : ℕ) : Type 0 where
  pub bytes : ℕ → ℕ
  pub small : (i : ℕ) → bytes i < 256
  pub lead : (s : Stream) (k : ℕ) → Has bytes width s k → passes (leads_to t s k).field ≡ true

share-led : (t : Tree) (passes : Field → Bool) (whole n : ℕ) → IsShare t passes whole n → 0 < n → (width : ℕ) → 0 < width → Led t passes width
unfolding IsShare leads_to
share-led (Done left) passes whole n h some width wide = record { bytes = λ i. 0; small = λ i. omega arith; lead = λ s k has. by (passes left.field) h }
  where
    by : (b : Bool) → n ≡ (if b then whole else 0) → b ≡ true
    by true h = refl
    by false h = absurd (omega (arith, h, some))
share-led (Draw next) passes whole n h some width wide =
    let found = over-some (λ b. true) h.part (omega (arith, some, h.sum)) in
    let b = found.0 in
    let rest = share-led (next b) passes h.each (h.part b) (h.parts b found.1.0 refl) found.1.1.1 width wide in
    record {
      bytes = then_bytes b rest.bytes;
      small = then-small b rest.bytes found.1.0 rest.small;
      lead = λ s k has. ap (λ (x : ℕ). passes (leads_to (next x) s (k + 1)).field) (has-first b rest.bytes width s k has)
          ∙ rest.lead s (k + 1) (has-later b rest.bytes width s k has);
    }
share-led (Search test found none) passes whole n (inl (few, h)) some width wide =
    let drawn = over-some test h.part (omega (arith, some, h.sum)) in
    let b = drawn.0 in
    let rest = share-led (found b) passes h.each (h.part b) (h.parts b drawn.1.0 drawn.1.1.0) drawn.1.1.1 width wide in
    record {
      bytes = then_bytes b rest.bytes;
      small = then-small b rest.bytes drawn.1.0 rest.small;
      lead = λ s k has.
          let here = has-first b rest.bytes width s k has in
          ap (λ (o : Option ℕ). passes (elim o as (λ _. Progress) [ Some m ↦ leads_to (found (byte_at s m)) s (m + 1) | None ↦ leads_to none s (k + span s) ]).field)
          (first-here s k test (omega (arith, has.wide, wide)) (ap test here ∙ drawn.1.1.0))
          ∙ ap (λ (x : ℕ). passes (leads_to (found x) s (k + 1)).field) here ∙ rest.lead s (k + 1) (has-later b rest.bytes width s k has);
    }
share-led (Search test found none) passes whole n (inr (none_passes, h)) some width wide =
    let rest = share-led none passes whole n h some width wide in
    record {
      bytes = after_zeros width rest.bytes;
      small = zeros-small width rest.bytes rest.small;
      lead = λ s k has.
          ap (λ (o : Option ℕ). passes (elim o as (λ _. Progress) [ Some m ↦ leads_to (found (byte_at s m)) s (m + 1) | None ↦ leads_to none s (k + span s) ]).field)
          (first-none s k test rest.bytes width none_passes has) ∙ rest.lead s (k + span s) (has-after rest.bytes width s k has);
    }

-- Of some whole there are shares: a multiple of what each branch has.

unfoldable product_below : ℕ → (ℕ → ℕ) → ℕ
product_below zero f = 1
product_below (suc n) f = product_below n f * f n

-- The product of the others.
unfoldable others_below : ℕ → ℕ → (ℕ → ℕ) → ℕ
others_below zero b f = 1
others_below (suc n) b f = if b == n then product_below n f else others_below n b f * f n

positive : (a b : ℕ) → 0 < a → 0 < b → 0 < a * b
positive a b p q = let one : 1 * 1 ≤ a * b = mul-le 1 1 a b (omega (arith, p)) (omega (arith, q)) in omega (arith, one)

product-some : (n : ℕ) (f : ℕ → ℕ) → ((b : ℕ) → 0 < f b) → 0 < product_below n f
unfolding product_below
product-some zero f h = omega arith
product-some (suc n) f h = positive (product_below n f) (f n) (product-some n f h) (h n)

swapped : (a b c : ℕ) → a * b * c ≡ a * c * b
swapped a b c = mul_assoc a b c ∙ ap (λ (x : ℕ). a * x) (mul_comm b c) ∙ sym (mul_assoc a c b)

moved : (a b c : ℕ) → a * (b * c) ≡ b * (a * c)
moved a b c = sym (mul_assoc a b c) ∙ ap (λ (x : ℕ). x * c) (mul_comm a b) ∙ mul_assoc b a c

others-times : (n b : ℕ) (f : ℕ → ℕ) → b < n → product_below n f ≡ others_below n b f * f b
unfolding product_below others_below
others-times zero b f lt = absurd (omega (arith, lt))
others-times (suc n) b f lt = by (b == n) refl (others-times n b f)
  where
    by : (t : Bool) → (b == n) ≡ t → (b < n → product_below n f ≡ others_below n b f * f b)
        → product_below n f * f n ≡ (if t then product_below n f else others_below n b f * f n) * f b
    by true e before = let same : b ≡ n = grind (arith, e) in ap (λ (x : ℕ). product_below n f * f x) (sym same)
    by false e before =
        let below : b < n = grind (arith, e, lt) in
        ap (λ (x : ℕ). x * f n) (before below) ∙ swapped (others_below n b f) (f b) (f n)

record HasWhole (t : Tree) : Type 0 where
  pub whole : ℕ
  pub positive : 0 < whole
  pub share : (k : ℕ) (passes : Field → Bool) → (n : ℕ) × IsShare t passes (k * whole) n

abbrev product_of : {next : ℕ → Tree} → ((b : ℕ) → HasWhole (next b)) → ℕ
product_of each = product_below 256 λ b. (each b).whole

dealt-some : {test : ℕ → Bool} {next : ℕ → Tree} (h : (b : ℕ) → HasWhole (next b)) (k : ℕ) (passes : Field → Bool)
    → (n : ℕ) × IsDealt test (λ b. IsShare (next b) passes) (k * (count_of test * product_of h)) n
dealt-some {test} {next} h k passes =
    let part : ℕ → ℕ = λ b. ((h b).share (k * others_below 256 b (λ c. (h c).whole)) passes).0 in (
      sum_over test part,
      record {
        each = k * product_of h;
        part = part;
        equal = moved (count_of test) k (product_of h);
        parts = λ b lt is. subst (λ (w : ℕ). IsShare (next b) passes w (part b))
            (mul_assoc k (others_below 256 b (λ c. (h c).whole)) (h b).whole ∙ ap (λ (x : ℕ). k * x) (sym (others-times 256 b (λ c. (h c).whole) lt)))
            ((h b).share (k * others_below 256 b (λ c. (h c).whole)) passes).1;
        sum = refl;
      },
    )

has-whole : (t : Tree) → HasWhole t
unfolding IsShare
has-whole (Done left) = record { whole = 1; positive = omega arith; share = λ k passes. (if passes left.field then k * 1 else 0, refl) }
has-whole (Draw next) = record {
  whole = count_of (λ b. true) * product_of (λ b. has-whole (next b));
  positive = positive _ _ some-all (product-some 256 (λ b. (has-whole (next b)).whole) (λ b. (has-whole (next b)).positive));
  share = dealt-some (λ b. has-whole (next b));
}
has-whole (Search test found none) = by (count_of test) refl (λ b. has-whole (found b)) (has-whole none)
  where
    by : (c : ℕ) → count_of test ≡ c → ((b : ℕ) → HasWhole (found b)) → HasWhole none → HasWhole (Search test found none)
    by zero e each rest = record { whole = rest.whole; positive = rest.positive; share = λ k passes. let x = rest.share k passes in (x.0, inr (e, x.1)) }
    by (suc c) e each rest =
        let few : 0 < count_of test = omega (arith, e) in
        record {
          whole = count_of test * product_of each;
          positive = positive _ _ few (product-some 256 (λ b. (each b).whole) (λ b. (each b).positive));
          share = λ k passes. let x = dealt-some each k passes in (x.0, inl (few, x.1));
        }

pub shares_are_probabilities : SharesAreProbabilities
unfolding byte_at
shares_are_probabilities t = record {
  some = let h = has-whole t in (
    h.whole,
    (
      h.positive,
      λ passes. let e : 1 * h.whole ≡ h.whole = omega arith in
          let x = h.share 1 passes in (x.0, subst (λ (w : ℕ). IsShare t passes w x.0) e x.1),
    ),
  );
  one = share-one t;
  all = share-all t;
  sum = λ one other whole m n apart. share-sum t one other apart whole m n;
  led = λ passes whole n h some width wide.
      let x = share-led t passes whole n h some width wide in
      (x.bytes, (x.small, x.lead (Drawn x.bytes width) 0 (record { wide = refl; bytes = λ i. let e : 0 + i ≡ i = omega arith in ap x.bytes e })));
  leads = share-leads t;
}
