-- Trees that lead to the same field on each stream have equal shares.
--
-- Both trees are followed a byte at a time, on streams that begin again after each span. A search that can't find anything leads to
-- the same field there as the tree after it. Any other tree is a later one after a byte that passes a test, and the same tree after
-- any other byte. Its share is the mean of 256 shares, one for each byte. Those of two trees are equal by induction, or they are the
-- shares of the two trees themselves. They are equal by induction for one byte at least, and this makes the means equal.
use Rattle.std.proofs.Common.{Bool, IsFalse, IsTrue, None, Option, Some, ap, ap₂, arith, false, if◌then◌else◌, inl, inr, refl, subst, suc, sym, true, zero, ℕ, ◌%◌, ◌*◌, ◌+◌, ◌-◌, ◌<◌, ◌==◌, ◌∙◌, ◌≡◌, ◌≤◌, ◌⊎◌}
use Rattle.std.proofs.lemmas.Bool.{false≢true}
use Rattle.std.proofs.Math.Nat.{add-mod_right, mod-eq_of_lt, mul_assoc, mul_comm}
use Rattle.gen1_rolls.specs.Streams.{byte_at, first, first_within, span, Drawn, HoldsEveryByte, IsFirst, IsStream, Stream}
use Rattle.gen1_rolls.proofs.First.{first-exists, first-finds, byte-small, every_byte}
use Rattle.gen1_machine.specs.State.{Field}
use Rattle.gen1_machine.specs.Progress.{Progress}
use Rattle.gen1_machine.specs.Laws.{count_of, leads_to, sum_below, sum_over, Done, Draw, HasProbability, IsDealt, IsShare, Search, SharesDependOnFields, Tree, UpdatesHaveProbabilities}
use Rattle.gen1_machine.proofs.Trees.{searched}
use Rattle.gen1_machine.proofs.Runs.{updates_are_trees}
use Rattle.gen1_machine.proofs.Shares.{all-count, below-plus, below-same, below-times, counted, first-here, if_so, over-some, over-times, share-one, shares_are_probabilities}

-- Sums and means

below-most : (n : ℕ) (f g : ℕ → ℕ) → ((b : ℕ) → b < n → f b ≤ g b) → sum_below n f ≤ sum_below n g
unfolding sum_below
below-most zero f g h = omega arith
below-most (suc n) f g h =
    let before = below-most n f g (λ b lt. h b (omega (arith, lt))) in
    let here = h n (omega arith) in
    omega (arith, before, here)

below-less : (n : ℕ) (f g : ℕ → ℕ) → ((b : ℕ) → b < n → f b ≤ g b) → (b : ℕ) → b < n → f b < g b → sum_below n f < sum_below n g
unfolding sum_below
below-less zero f g h b lt less = absurd (omega (arith, lt))
below-less (suc n) f g h b lt less = elim (last b n lt) [
  | inl e ↦
      let here : f n < g n = subst (λ (x : ℕ). f x < g x) e less in
      let before = below-most n f g (λ b lt. h b (omega (arith, lt))) in
      omega (arith, here, before)
  | inr below ↦
      let before = below-less n f g (λ b lt. h b (omega (arith, lt))) b below less in
      let here = h n (omega arith) in
      omega (arith, here, before)
]
  where
    last : (b n : ℕ) → b < suc n → (b ≡ n) ⊎ (b < n)
    last b n lt = grind arith

same-sums : (x : ℕ) → sum_below 256 (λ b. x) ≡ 256 * x
same-sums x = over-times (λ b. true) x ∙ ap (λ (c : ℕ). c * x) all-count

-- The means of f and g are x and y.
record AreMeans (f g : ℕ → ℕ) (x y : ℕ) : Type 0 where
  pub one : sum_below 256 f ≡ 256 * x
  pub other : sum_below 256 g ≡ 256 * y

mean-at_most : (f g : ℕ → ℕ) (x y : ℕ) → AreMeans f g x y → ((b : ℕ) → b < 256 → (f b ≡ g b) ⊎ ((f b ≡ x) × (g b ≡ y)))
    → (c : ℕ) → c < 256 → f c ≡ g c → y ≤ x
mean-at_most f g x y means each c lt e = elim (order x y) [ inl less ↦ absurd (not_less less) | inr most ↦ most ]
  where
    order : (x y : ℕ) → (x < y) ⊎ (y ≤ x)
    order x y = grind arith

    at : (b : ℕ) → x < y → (f b ≡ g b) ⊎ ((f b ≡ x) × (g b ≡ y)) → g b + x ≤ f b + y
    at b less (inl same) = omega (arith, same, less)
    at b less (inr both) = omega (arith, both.0, both.1)

    not_less : x < y → ⊥
    not_less less =
        let more = below-less 256 (λ b. g b + x) (λ b. f b + y) (λ b below. at b less (each b below)) c lt (omega (arith, e, less)) in
        let left = below-plus 256 g (λ b. x) in
        let right = below-plus 256 f (λ b. y) in
        omega (arith, more, left, right, same-sums x, same-sums y, means.one, means.other)

-- Two means are equal, if at each place the numbers are equal or are these means, and at one place they are equal.
mean-same : (f g : ℕ → ℕ) (x y : ℕ) → AreMeans f g x y → ((b : ℕ) → b < 256 → (f b ≡ g b) ⊎ ((f b ≡ x) × (g b ≡ y)))
    → (c : ℕ) → c < 256 → f c ≡ g c → x ≡ y
mean-same f g x y means each c lt e =
    let one = mean-at_most f g x y means each c lt e in
    let other = mean-at_most g f y x (record { one = means.other; other = means.one }) (λ b below. turned b (each b below)) c lt (sym e) in
    omega (arith, one, other)
  where
    turned : (b : ℕ) → (f b ≡ g b) ⊎ ((f b ≡ x) × (g b ≡ y)) → (g b ≡ f b) ⊎ ((g b ≡ y) × (f b ≡ x))
    turned b (inl same) = inl (sym same)
    turned b (inr both) = inr (both.1, both.0)

-- Shares of a multiple

over-scaled : (test : ℕ → Bool) (f : ℕ → ℕ) (k : ℕ) → sum_over test (λ b. f b * k) ≡ sum_over test f * k
over-scaled test f k = below-same 256 _ _ (λ b lt. by (test b) (f b)) ∙ below-times 256 (λ b. if_so (test b) (f b)) k
  where
    by : (t : Bool) (x : ℕ) → if_so t (x * k) ≡ if_so t x * k
    by true x = refl
    by false x = omega arith

dealt-times : {test : ℕ → Bool} {P : ℕ → ℕ → ℕ → Type 0} {whole n : ℕ} (k : ℕ) → ((b w i : ℕ) → P b w i → P b (w * k) (i * k))
    → IsDealt test P whole n → IsDealt test P (whole * k) (n * k)
dealt-times {test} k times d = record {
  each = d.each * k;
  part = λ b. d.part b * k;
  equal = sym (mul_assoc (count_of test) d.each k) ∙ ap (λ (x : ℕ). x * k) d.equal;
  parts = λ b lt is. times b d.each (d.part b) (d.parts b lt is);
  sum = over-scaled test d.part k ∙ ap (λ (x : ℕ). x * k) d.sum;
}

share-times : (t : Tree) (passes : Field → Bool) (k whole n : ℕ) → IsShare t passes whole n → IsShare t passes (whole * k) (n * k)
unfolding IsShare
share-times (Done left) passes k whole n h = ap (λ (x : ℕ). x * k) h ∙ by (passes left.field)
  where
    by : (b : Bool) → if_so b whole * k ≡ if_so b (whole * k)
    by true = refl
    by false = omega arith
share-times (Draw next) passes k whole n h = dealt-times k (λ b. share-times (next b) passes k) h
share-times (Search test found none) passes k whole n (inl (some, h)) = inl (some, dealt-times k (λ b. share-times (found b) passes k) h)
share-times (Search test found none) passes k whole n (inr (none_passes, h)) = inr (none_passes, share-times none passes k whole n h)

-- Streams that begin again

-- After each span the same bytes come again.
record Repeats (s : Stream) : Type 0 where
  pub is : IsStream s
  pub again : (i : ℕ) → byte_at s (i + span s) ≡ byte_at s i

abbrev moved_by : ℕ → Option ℕ → Option ℕ
moved_by k o = elim o as (λ _. Option ℕ) [ Some m ↦ Some (m + k) | None ↦ None ]

within-again : (s : Stream) → Repeats s → (k n : ℕ) (test : ℕ → Bool) → first_within k s (n + span s) test ≡ moved_by (span s) (first_within k s n test)
unfolding first_within
within-again s r zero n test = refl
within-again s r (suc k) n test =
    ap (λ (b : ℕ). elim (test b) as (λ _. Option ℕ) [ true ↦ Some (n + span s) | false ↦ first_within k s (n + span s + 1) test ]) (r.again n)
    ∙ by (test (byte_at s n)) (within-again s r k (n + 1) test)
  where
    by : (b : Bool) → first_within k s (n + 1 + span s) test ≡ moved_by (span s) (first_within k s (n + 1) test)
        → elim b as (λ _. Option ℕ) [ true ↦ Some (n + span s) | false ↦ first_within k s (n + span s + 1) test ]
        ≡ moved_by (span s) (elim b as (λ _. Option ℕ) [ true ↦ Some n | false ↦ first_within k s (n + 1) test ])
    by true h = refl
    by false h = let e : n + span s + 1 ≡ n + 1 + span s = omega arith in ap (λ (i : ℕ). first_within k s i test) e ∙ h

first-again : (s : Stream) → Repeats s → (n : ℕ) (test : ℕ → Bool) → first s (n + span s) test ≡ moved_by (span s) (first s n test)
unfolding first
first-again s r n test = within-again s r (span s) n test

-- Where a search leads, by the place that it finds.
abbrev field_by : (ℕ → Tree) → Tree → Stream → ℕ → Option ℕ → Field
field_by found none s n o = (searched o (λ m. leads_to (found (byte_at s m)) s (m + 1)) (leads_to none s (n + span s))).field

leads-again : (t : Tree) (s : Stream) → Repeats s → (n : ℕ) → (leads_to t s (n + span s)).field ≡ (leads_to t s n).field
unfolding leads_to
leads-again (Done left) s r n = refl
leads-again (Draw next) s r n =
    let e : n + span s + 1 ≡ n + 1 + span s = omega arith in
    ap₂ (λ (b i : ℕ). (leads_to (next b) s i).field) (r.again n) e ∙ leads-again (next (byte_at s n)) s r (n + 1)
leads-again (Search test found none) s r n =
    ap (field_by found none s (n + span s)) (first-again s r n test)
    ∙ by (first s n test) (λ m. leads-again (found (byte_at s m)) s r (m + 1)) (leads-again none s r (n + span s))
  where
    by : (o : Option ℕ) → ((m : ℕ) → (leads_to (found (byte_at s m)) s (m + 1 + span s)).field ≡ (leads_to (found (byte_at s m)) s (m + 1)).field)
        → (leads_to none s (n + span s + span s)).field ≡ (leads_to none s (n + span s)).field
        → field_by found none s (n + span s) (moved_by (span s) o) ≡ field_by found none s n o
    by (Some m) h k =
        let e : m + span s + 1 ≡ m + 1 + span s = omega arith in
        ap₂ (λ (b i : ℕ). (leads_to (found b) s i).field) (r.again m) e ∙ h m
    by None h k = k

-- A stream with any bytes up to a place

unfoldable then_all : ℕ → (ℕ → ℕ) → ℕ → ℕ
then_all zero f i = i % 256
then_all (suc n) f zero = f 0
then_all (suc n) f (suc i) = then_all n (λ j. f (suc j)) i

all-small : (n : ℕ) (f : ℕ → ℕ) → ((i : ℕ) → f i < 256) → (i : ℕ) → then_all n f i < 256
unfolding then_all
all-small zero f h i = omega arith
all-small (suc n) f h zero = h 0
all-small (suc n) f h (suc i) = all-small n (λ j. f (suc j)) (λ j. h (suc j)) i

all-before : (n : ℕ) (f : ℕ → ℕ) (i : ℕ) → i < n → then_all n f i ≡ f i
unfolding then_all
all-before zero f i lt = absurd (omega (arith, lt))
all-before (suc n) f zero lt = refl
all-before (suc n) f (suc i) lt = all-before n (λ j. f (suc j)) i (omega (arith, lt))

all-after : (n : ℕ) (f : ℕ → ℕ) (b : ℕ) → b < 256 → then_all n f (n + b) ≡ b
unfolding then_all
all-after zero f b lt = omega (arith, lt)
all-after (suc n) f b lt =
    let e : suc n + b ≡ suc (n + b) = omega arith in
    ap (then_all (suc n) f) e ∙ all-after n (λ j. f (suc j)) b lt

abbrev repeated : ℕ → (ℕ → ℕ) → ℕ → ℕ
repeated n f i = then_all n f (i % (n + 256))

holds-from : (bytes : ℕ → ℕ) (width : ℕ) → ((i : ℕ) → bytes (i + width) ≡ bytes i) → HoldsEveryByte bytes width → (k : ℕ) → HoldsEveryByte (λ j. bytes (k + j)) width
holds-from bytes width again holds zero b lt =
    let at = holds b lt in
    let e : 0 + at.0 ≡ at.0 = omega arith in
    (at.0, (at.1.0, ap bytes e ∙ at.1.1))
holds-from bytes width again holds (suc k) b lt = let at = holds-from bytes width again holds k b lt in by at.0 at.1.0 at.1.1
  where
    by : (j : ℕ) → j < width → bytes (k + j) ≡ b → (i : ℕ) × ((i < width) × (bytes (suc k + i) ≡ b))
    by zero below is =
        let e : suc k + (width - 1) ≡ k + 0 + width = omega (arith, below) in
        (width - 1, (omega (arith, below), ap bytes e ∙ again (k + 0) ∙ is))
    by (suc i) below is = let e : suc k + i ≡ k + suc i = omega arith in (i, (omega (arith, below), ap bytes e ∙ is))

repeated-again : (n : ℕ) (f : ℕ → ℕ) (i : ℕ) → repeated n f (i + (n + 256)) ≡ repeated n f i
repeated-again n f i = ap (then_all n f) (add-mod_right i (n + 256))

repeated-holds : (n : ℕ) (f : ℕ → ℕ) → HoldsEveryByte (repeated n f) (n + 256)
repeated-holds n f b lt = (n + b, (omega (arith, lt), ap (then_all n f) (mod-eq_of_lt (omega (arith, lt))) ∙ all-after n f b lt))

repeated-repeats : (n : ℕ) (f : ℕ → ℕ) → ((i : ℕ) → f i < 256) → Repeats (Drawn (repeated n f) (n + 256))
unfolding byte_at
repeated-repeats n f small = record {
  is = (λ i. all-small n f small (i % (n + 256)), holds-from (repeated n f) (n + 256) (repeated-again n f) (repeated-holds n f));
  again = repeated-again n f;
}

repeated-begins : (n : ℕ) (f : ℕ → ℕ) (i : ℕ) → i < n → byte_at (Drawn (repeated n f) (n + 256)) i ≡ f i
unfolding byte_at
repeated-begins n f i lt = ap (then_all n f) (mod-eq_of_lt (omega (arith, lt))) ∙ all-before n f i lt

-- Two trees from a place on

-- They lead to the same field on each stream that begins again after each span and has these bytes up to the place.
abbrev SameFrom : ℕ → (ℕ → ℕ) → Tree → Tree → Type 0
SameFrom n f t u = (s : Stream) → Repeats s → ((i : ℕ) → i < n → byte_at s i ≡ f i) → (leads_to t s n).field ≡ (leads_to u s n).field

abbrev SameShares : Tree → Tree → Type 0
SameShares t u = (n : ℕ) (f : ℕ → ℕ) → ((i : ℕ) → f i < 256) → SameFrom n f t u
    → (passes : Field → Bool) (whole x y : ℕ) → IsShare t passes whole x → IsShare u passes whole y → x ≡ y

done-same : (l r : Progress) → SameShares (Done l) (Done r)
unfolding leads_to IsShare
done-same l r n f small same passes whole x y h k =
    let e : l.field ≡ r.field = same (Drawn (repeated n f) (n + 256)) (repeated-repeats n f small) (repeated-begins n f) in
    h ∙ ap (λ (g : Field). if passes g then whole else 0) e ∙ sym k

-- A tree by its next byte

-- A tree after a byte: a later tree if the byte passes a test, else the same tree.
abbrev later_or : Bool → Tree → Tree → Tree
later_or passed later t = elim passed as (λ _. Tree) [ true ↦ later | false ↦ t ]

-- A share is the mean of the shares of the trees after each byte.
record HasParts (test : ℕ → Bool) (next : ℕ → Tree) (t : Tree) (passes : Field → Bool) (whole n : ℕ) : Type 0 where
  pub part : ℕ → ℕ
  pub parts : (b : ℕ) → b < 256 → IsShare (later_or (test b) (next b) t) passes whole (part b)
  pub sum : sum_below 256 part ≡ 256 * n

record ByByte (test : ℕ → Bool) (next : ℕ → Tree) (t : Tree) : Type 0 where
  pub leads : (s : Stream) → Repeats s → (n : ℕ)
      → (leads_to t s n).field ≡ (leads_to (later_or (test (byte_at s n)) (next (byte_at s n)) t) s (n + 1)).field
  pub dealt : (passes : Field → Bool) (whole n : ℕ) → IsShare t passes whole n → HasParts test next t passes whole n

done-by_byte : (left : Progress) → ByByte (λ b. false) (λ b. Done left) (Done left)
unfolding leads_to
done-by_byte left = record {
  leads = λ s r n. refl;
  dealt = λ passes whole n h. record { part = λ b. n; parts = λ b lt. h; sum = same-sums n };
}

-- The mean is n: a byte that passes the test has its part, any other byte has n.
parts-sum : (test : ℕ → Bool) (f : ℕ → ℕ) (n : ℕ) → sum_over test f ≡ count_of test * n → sum_below 256 (λ b. if test b then f b else n) ≡ 256 * n
parts-sum test f n h =
    let one = below-plus 256 (λ b. if test b then f b else n) (λ b. if_so (test b) n) in
    let same = below-same 256 (λ b. (if test b then f b else n) + if_so (test b) n) (λ b. if_so (test b) (f b) + n) (λ b lt. by (test b) (f b)) in
    let other = below-plus 256 (λ b. if_so (test b) (f b)) (λ b. n) in
    cancel (sum_below 256 (λ b. if test b then f b else n)) (count_of test * n) (256 * n)
    (sym (ap (λ (x : ℕ). sum_below 256 (λ b. if test b then f b else n) + x) (over-times test n)) ∙ sym one ∙ same ∙ other
    ∙ ap₂ (λ (x y : ℕ). x + y) h (same-sums n))
  where
    by : (t : Bool) (x : ℕ) → (if t then x else n) + if_so t n ≡ if_so t x + n
    by true x = refl
    by false x = omega arith

    cancel : (x y z : ℕ) → x + y ≡ y + z → x ≡ z
    cancel x y z e = omega (arith, e)

dealt-parts : {test : ℕ → Bool} {next : ℕ → Tree} {t : Tree} {passes : Field → Bool} {whole n : ℕ}
    → IsShare t passes whole n → IsDealt test (λ b. IsShare (next b) passes) whole n → HasParts test next t passes whole n
dealt-parts {test} {next} {t} {passes} {whole} {n} h d = record {
  part = λ b. if test b then d.part b * count_of test else n;
  parts = λ b lt. by b (test b) (d.parts b lt);
  sum = parts-sum test (λ b. d.part b * count_of test) n (over-scaled test d.part (count_of test) ∙ ap (λ (x : ℕ). x * count_of test) d.sum ∙ mul_comm n (count_of test));
}
  where
    by : (b : ℕ) (p : Bool) → (IsTrue p → IsShare (next b) passes d.each (d.part b))
        → IsShare (later_or p (next b) t) passes whole (if p then d.part b * count_of test else n)
    by b true part = subst (λ (w : ℕ). IsShare (next b) passes w (d.part b * count_of test)) (mul_comm d.each (count_of test) ∙ d.equal)
        (share-times (next b) passes (count_of test) d.each (d.part b) (part refl))
    by b false part = h

draw-by_byte : (next : ℕ → Tree) → ByByte (λ b. true) next (Draw next)
unfolding leads_to IsShare
draw-by_byte next = record {
  leads = λ s r n. refl;
  dealt = λ passes whole n h. dealt-parts h h;
}

-- If a byte fails a test, the search finds the same place from the next one on.
first-same : (s : Stream) (n i j : ℕ) (test : ℕ → Bool) → IsFalse (test (byte_at s n)) → IsFirst s n test i → IsFirst s (n + 1) test j → i ≡ j
first-same s n i j test fails one other = by (order i j)
  where
    order : (x y : ℕ) → (x < y) ⊎ ((y < x) ⊎ (x ≡ y))
    order x y = grind arith

    from : (x y : ℕ) → x ≤ y → (x ≡ y) ⊎ (x + 1 ≤ y)
    from x y le = grind arith

    passed : IsTrue (test (byte_at s i)) → i < j → (n ≡ i) ⊎ (n + 1 ≤ i) → ⊥
    passed is less (inl e) = false≢true (sym fails ∙ ap (λ (k : ℕ). test (byte_at s k)) e ∙ is)
    passed is less (inr more) = false≢true (sym (other.none_before i more less) ∙ is)

    by : (i < j) ⊎ ((j < i) ⊎ (i ≡ j)) → i ≡ j
    by (inl less) = absurd (passed one.meets less (from n i one.from))
    by (inr (inl more)) = absurd (false≢true (sym (one.none_before j (omega (arith, other.from)) more) ∙ other.meets))
    by (inr (inr e)) = e

search-leads : (test : ℕ → Bool) (found : ℕ → Tree) (none : Tree) → 0 < count_of test → (s : Stream) → Repeats s → (n : ℕ)
    → (leads_to (Search test found none) s n).field
    ≡ (leads_to (later_or (test (byte_at s n)) (found (byte_at s n)) (Search test found none)) s (n + 1)).field
unfolding leads_to
search-leads test found none few s r n = by (test (byte_at s n)) refl
  where
    some : (k : ℕ) → (m : ℕ) × (first s k test ≡ Some m)
    some k = let passing = over-some test (λ b. 1) few in first-exists s r.is k test passing.0 passing.1.0 passing.1.1.0

    by : (p : Bool) → test (byte_at s n) ≡ p
        → field_by found none s n (first s n test) ≡ (leads_to (later_or p (found (byte_at s n)) (Search test found none)) s (n + 1)).field
    by true e = let zeroth = every_byte s r.is n 0 (omega arith) in ap (field_by found none s n) (first-here s n test (omega (arith, zeroth.1.0)) e)
    by false e =
        let one = some n in
        let other = some (n + 1) in
        let same = first-same s n one.0 other.0 test e (first-finds s n test one.0 one.1) (first-finds s (n + 1) test other.0 other.1) in
        ap (field_by found none s n) (one.1 ∙ ap (λ (m : ℕ). Some m) same) ∙ sym (ap (field_by found none s (n + 1)) other.1)

search-by_byte : (test : ℕ → Bool) (found : ℕ → Tree) (none : Tree) → 0 < count_of test → ByByte test found (Search test found none)
unfolding IsShare
search-by_byte test found none few = record {
  leads = search-leads test found none few;
  dealt = λ passes whole n h. by passes whole n h;
}
  where
    by : (passes : Field → Bool) (whole n : ℕ) → IsShare (Search test found none) passes whole n → HasParts test found (Search test found none) passes whole n
    by passes whole n (inl (some, d)) = dealt-parts (inl (some, d)) d
    by passes whole n (inr (none_passes, h)) = absurd (omega (arith, few, none_passes))

-- A search that can't find anything

none-leads : (test : ℕ → Bool) (found : ℕ → Tree) (none : Tree) → count_of test ≡ 0 → (s : Stream) → Repeats s → (n : ℕ)
    → (leads_to (Search test found none) s n).field ≡ (leads_to none s n).field
unfolding leads_to
none-leads test found none none_passes s r n = by (first s n test) refl ∙ leads-again none s r n
  where
    by : (o : Option ℕ) → first s n test ≡ o → field_by found none s n o ≡ (leads_to none s (n + span s)).field
    by (Some m) e =
        let few = counted test (byte_at s m) (byte-small s m r.is) (first-finds s n test m e).meets in absurd (omega (arith, few, none_passes))
    by None e = refl

none-share : (test : ℕ → Bool) (found : ℕ → Tree) (none : Tree) → count_of test ≡ 0 → (passes : Field → Bool) (whole n : ℕ)
    → IsShare (Search test found none) passes whole n → IsShare none passes whole n
unfolding IsShare
none-share test found none none_passes passes whole n (inl (some, d)) = absurd (omega (arith, some, none_passes))
none-share test found none none_passes passes whole n (inr (also, h)) = h

none-left : (test : ℕ → Bool) (found : ℕ → Tree) (none u : Tree) → count_of test ≡ 0 → SameShares none u → SameShares (Search test found none) u
none-left test found none u none_passes rest n f small same passes whole x y h k =
    rest n f small (λ s r begins. sym (none-leads test found none none_passes s r n) ∙ same s r begins) passes whole x y
    (none-share test found none none_passes passes whole x h) k

none-right : (t : Tree) (test : ℕ → Bool) (found : ℕ → Tree) (none : Tree) → count_of test ≡ 0 → SameShares t none → SameShares t (Search test found none)
none-right t test found none none_passes rest n f small same passes whole x y h k =
    rest n f small (λ s r begins. same s r begins ∙ none-leads test found none none_passes s r n) passes whole x y h
    (none-share test found none none_passes passes whole y k)

-- A byte further

abbrev with_byte : ℕ → ℕ → (ℕ → ℕ) → ℕ → ℕ
with_byte n b f i = if i == n then b else f i

with-here : (n b : ℕ) (f : ℕ → ℕ) → with_byte n b f n ≡ b
with-here n b f = by (n == n) refl
  where
    by : (t : Bool) → (n == n) ≡ t → (if t then b else f n) ≡ b
    by true e = refl
    by false e = absurd (grind (arith, e))

with-before : (n b : ℕ) (f : ℕ → ℕ) (i : ℕ) → i < n → with_byte n b f i ≡ f i
with-before n b f i lt = by (i == n) refl
  where
    by : (t : Bool) → (i == n) ≡ t → (if t then b else f i) ≡ f i
    by true e = absurd (grind (arith, e, lt))
    by false e = refl

with-small : (n b : ℕ) (f : ℕ → ℕ) → b < 256 → ((i : ℕ) → f i < 256) → (i : ℕ) → with_byte n b f i < 256
with-small n b f lt small i = by (i == n)
  where
    by : (t : Bool) → (if t then b else f i) < 256
    by true = lt
    by false = small i

same-on : {test check : ℕ → Bool} {next later : ℕ → Tree} {t u : Tree} → ByByte test next t → ByByte check later u → (n : ℕ) (f : ℕ → ℕ) (b : ℕ)
    → SameFrom n f t u → SameFrom (n + 1) (with_byte n b f) (later_or (test b) (next b) t) (later_or (check b) (later b) u)
same-on {test} {check} {next} {later} {t} {u} one other n f b same s r begins =
    let here : byte_at s n ≡ b = begins n (omega arith) ∙ with-here n b f in
    let before : (i : ℕ) → i < n → byte_at s i ≡ f i = λ i lt. begins i (omega (arith, lt)) ∙ with-before n b f i lt in
    ap (λ (x : ℕ). (leads_to (later_or (test x) (next x) t) s (n + 1)).field) (sym here)
    ∙ sym (one.leads s r n) ∙ same s r before ∙ other.leads s r n
    ∙ ap (λ (x : ℕ). (leads_to (later_or (check x) (later x) u) s (n + 1)).field) here

-- Two trees have equal shares if the trees after each byte that passes a test of one of them have.
step-same : {test check : ℕ → Bool} {next later : ℕ → Tree} {t u : Tree} → ByByte test next t → ByByte check later u
    → (c : ℕ) → c < 256 → IsTrue (test c) ⊎ IsTrue (check c) → ((b : ℕ) → IsTrue (test b) → (v : Tree) → SameShares (next b) v)
    → ((b : ℕ) → IsTrue (check b) → SameShares t (later b)) → SameShares t u
step-same {test} {check} {next} {later} {t} {u} one other c below passed left right n f small same passes whole x y h k =
    mean-same p.part q.part x y (record { one = p.sum; other = q.sum }) (λ b lt. means b (at b lt)) c below (there (at c below) passed)
  where
    p : HasParts test next t passes whole x
    p = one.dealt passes whole x h

    q : HasParts check later u passes whole y
    q = other.dealt passes whole y k

    by : (b : ℕ) → b < 256 → (moves moves_other : Bool) → (IsTrue moves → (v : Tree) → SameShares (next b) v) → (IsTrue moves_other → SameShares t (later b))
        → SameFrom (n + 1) (with_byte n b f) (later_or moves (next b) t) (later_or moves_other (later b) u)
        → IsShare (later_or moves (next b) t) passes whole (p.part b) → IsShare (later_or moves_other (later b) u) passes whole (q.part b)
        → (p.part b ≡ q.part b) ⊎ ((IsFalse moves × IsFalse moves_other) × ((p.part b ≡ x) × (q.part b ≡ y)))
    by b lt true true on after e d k = inl (on refl (later b) (n + 1) (with_byte n b f) (with-small n b f lt small) e passes whole (p.part b) (q.part b) d k)
    by b lt true false on after e d k = inl (on refl u (n + 1) (with_byte n b f) (with-small n b f lt small) e passes whole (p.part b) (q.part b) d k)
    by b lt false true on after e d k = inl (after refl (n + 1) (with_byte n b f) (with-small n b f lt small) e passes whole (p.part b) (q.part b) d k)
    by b lt false false on after e d l = inr ((refl, refl), (share-one t passes whole (p.part b) x d h, share-one u passes whole (q.part b) y l k))

    at : (b : ℕ) → b < 256 → (p.part b ≡ q.part b) ⊎ ((IsFalse (test b) × IsFalse (check b)) × ((p.part b ≡ x) × (q.part b ≡ y)))
    at b lt = by b lt (test b) (check b) (left b) (right b) (same-on one other n f b same) (p.parts b lt) (q.parts b lt)

    means : (b : ℕ) → (p.part b ≡ q.part b) ⊎ ((IsFalse (test b) × IsFalse (check b)) × ((p.part b ≡ x) × (q.part b ≡ y)))
        → (p.part b ≡ q.part b) ⊎ ((p.part b ≡ x) × (q.part b ≡ y))
    means b (inl e) = inl e
    means b (inr both) = inr both.1

    there : (p.part c ≡ q.part c) ⊎ ((IsFalse (test c) × IsFalse (check c)) × ((p.part c ≡ x) × (q.part c ≡ y)))
        → IsTrue (test c) ⊎ IsTrue (check c) → p.part c ≡ q.part c
    there (inl e) is = e
    there (inr both) (inl is) = absurd (false≢true (sym both.0.0 ∙ is))
    there (inr both) (inr is) = absurd (false≢true (sym both.0.1 ∙ is))

-- A tree against any other
against : {test : ℕ → Bool} {next : ℕ → Tree} {t : Tree} → ByByte test next t → ((b : ℕ) → IsTrue (test b) → (v : Tree) → SameShares (next b) v)
    → ((left : Progress) → SameShares t (Done left)) → (u : Tree) → SameShares t u
against one each done (Done left) = done left
against one each done (Draw later) = step-same one (draw-by_byte later) 0 (omega arith) (inr refl) each (λ b is. against one each done (later b))
against {t = t} one each done (Search test found none) = by (count_of test) refl (against one each done none) (λ b. against one each done (found b))
  where
    by : (c : ℕ) → count_of test ≡ c → SameShares t none → ((b : ℕ) → SameShares t (found b)) → SameShares t (Search test found none)
    by zero e rest some = none-right t test found none e rest
    by (suc c) e rest some =
        let few : 0 < count_of test = omega (arith, e) in
        let passing = over-some test (λ b. 1) few in
        step-same one (search-by_byte test found none few) passing.0 passing.1.0 (inr passing.1.1.0) each (λ b is. some b)

same-shares : (t u : Tree) → SameShares t u
same-shares (Done l) = against (done-by_byte l) (λ b is. absurd (false≢true is)) (done-same l)
same-shares (Draw next) =
    let each : (b : ℕ) → IsTrue true → (v : Tree) → SameShares (next b) v = λ b is v. same-shares (next b) v in
    against (draw-by_byte next) each
    (λ left. step-same (draw-by_byte next) (done-by_byte left) 0 (omega arith) (inl refl) each (λ b is. absurd (false≢true is)))
same-shares (Search test found none) = by (count_of test) refl (same-shares none) (λ b. same-shares (found b))
  where
    by : (c : ℕ) → count_of test ≡ c → ((u : Tree) → SameShares none u) → ((b : ℕ) (u : Tree) → SameShares (found b) u)
        → (u : Tree) → SameShares (Search test found none) u
    by zero e rest some u = none-left test found none u e (rest u)
    by (suc c) e rest some u =
        let few : 0 < count_of test = omega (arith, e) in
        let passing = over-some test (λ b. 1) few in
        let one = search-by_byte test found none few in
        against one (λ b is. some b)
        (λ left. step-same one (done-by_byte left) passing.0 passing.1.0 (inl passing.1.1.0) (λ b is. some b) (λ b is. absurd (false≢true is))) u

pub shares_depend_on_fields : SharesDependOnFields
shares_depend_on_fields t u same passes whole share total part h k =
    same-shares t u 0 (λ i. 0) (λ i. omega arith) (λ s r begins. same s r.is) passes (whole * total) (share * total) (part * whole)
    (share-times t passes total whole share h)
    (subst (λ (w : ℕ). IsShare u passes w (part * whole)) (mul_comm total whole) (share-times u passes whole total part k))

pub updates_have_probabilities : UpdatesHaveProbabilities
unfolding HasProbability
updates_have_probabilities terms one two p passes =
    let tree = updates_are_trees terms one two p in
    let some = (shares_are_probabilities tree.0).some in
    let share = some.1.1 passes in (
      (some.0, (some.1.0, (share.0, (tree.0, (tree.1, share.1))))),
      λ whole share total part h k. shares_depend_on_fields h.0 k.0 (λ s is. ap (λ (q : Progress). q.field) (sym (h.1.0 s 0) ∙ k.1.0 s 0))
          passes whole share total part h.1.1 k.1.1,
    )
