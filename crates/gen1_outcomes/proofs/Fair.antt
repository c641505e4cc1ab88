-- The bytes of a draw: those of its class, those that are left, and those that were gone through.
use Rattle.std.proofs.Common.{◌≡◌, ◌⊎◌, inl, inr, ℕ, zero, suc, ◌+◌, ◌<◌, ◌==◌, ◌&&◌, Bool, IsTrue, true, false, ap, ap₂, arith, cond, refl, sym, ◌∙◌}
use Rattle.std.specs.List.{range_with_len, sum_by}
use Rattle.std.proofs.lemmas.Bool.Decides.{nat_tests}
use Rattle.std.proofs.lemmas.List.Sums.{sum_by-cons}
use Rattle.std.proofs.lemmas.Nat.Bits.{bit_at-lt}
use Rattle.gen1_rolls.specs.Streams.{passes}
use Rattle.gen1_machine.specs.Laws.{count_of, sum_below}
use Rattle.gen1_machine.proofs.Shares.{below-plus, below-same, if_so}
use Rattle.gen1_outcomes.specs.declared.byte_set.ByteSet.{ByteSet}
use Rattle.gen1_outcomes.specs.declared.nodes.Asked.{Asked}
use Rattle.gen1_outcomes.specs.declared.nodes.Asked.TheVariants.{First, Next, Unknown}
use Rattle.gen1_outcomes.specs.declared.nodes.Node.{Node}
use Rattle.gen1_outcomes.specs.declared.nodes.Nodes.{Nodes}
use Rattle.gen1_outcomes.specs.Nodes.{GoesOn}
use Rattle.gen1_outcomes.specs.Bytes.{has, size, alike_in, told}
use Rattle.gen1_outcomes.proofs.Complete.{CanAsk}
use Rattle.gen1_outcomes.proofs.Walking.{at, some_node}

pub same_of : (a b : ℕ) → (a == b) ≡ true → a ≡ b
same_of a b e = grind (arith, nat_tests)

pub true_not : (b : Bool) → b ≡ true → b ≡ false → ⊥
true_not b is off = cc

-- The bytes that a draw may have, and those in the class of the one that it has.
abbrev pub may_of : Asked → ℕ → Bool
may_of Next = λ b. true
may_of (First test) = passes test
may_of Unknown = λ b. false

abbrev pub is_on : Node → ℕ → Bool
is_on node b = alike_in node.damage_classes node.look node.byte b

abbrev pub node_at : Nodes → ℕ → Node
node_at nodes k = at nodes k some_node

-- Sizes of sets are sums over all bytes.

below-front : (g : ℕ → ℕ) (k : ℕ) → sum_below (suc k) g ≡ g 0 + sum_below k (λ i. g (suc i))
unfolding sum_below
below-front g zero = omega arith
below-front g (suc k) =
    let before : sum_below k g + g k ≡ g 0 + sum_below k (λ i. g (suc i)) = below-front g k in omega (arith, before)

size-below : (f : ℕ → ℕ) (k a : ℕ) → sum_by f (range_with_len a k) ≡ sum_below k (λ i. f (a + i))
unfolding sum_below
size-below f zero a = refl
size-below f (suc k) a =
    let one : sum_by f (range_with_len a (suc k)) ≡ f a + sum_by f (range_with_len (a + 1) k) = sum_by-cons f a (range_with_len (a + 1) k) in
    let rest : sum_by f (range_with_len (a + 1) k) ≡ sum_below k (λ i. f (a + 1 + i)) = size-below f k (a + 1) in
    let moved : sum_below k (λ i. f (a + 1 + i)) ≡ sum_below k (λ i. f (a + suc i)) =
    below-same k _ _ (λ i lt. let e : a + 1 + i ≡ a + suc i = omega arith in ap f e)
    in
    let first : f (a + 0) ≡ f a = let e : a + 0 ≡ a = omega arith in ap f e in
    let front : sum_below (suc k) (λ i. f (a + i)) ≡ f (a + 0) + sum_below k (λ i. f (a + suc i)) = below-front (λ i. f (a + i)) k in
    one ∙ ap₂ (λ (x y : ℕ). x + y) (sym first) (rest ∙ moved) ∙ sym front

pub size-is : (set : ByteSet) → size set ≡ sum_below 256 (has set)
unfolding size
size-is set = size-below (has set) 256 0 ∙ below-same 256 _ _ (λ i lt. let e : 0 + i ≡ i = omega arith in ap (has set) e)

pub has_or : (set : ByteSet) (b : ℕ) → (has set b ≡ 0) ⊎ (has set b ≡ 1)
has_or set b = by (has set b) (bit_at-lt _ _)
  where
    by : (n : ℕ) → n < 2 → (n ≡ 0) ⊎ (n ≡ 1)
    by n lt = grind (arith, lt)

-- A class and what is left of it are as many as they were.
counts : (t o : ℕ → Bool) (old new : ByteSet) (n : ℕ) → n + size new ≡ size old
    → ((b : ℕ) → b < 256 → if_so (t b && o b) 1 + has new b ≡ has old b) → n ≡ count_of (λ b. t b && o b)
counts t o old new n sum each =
    let both : count_of (λ b. t b && o b) + sum_below 256 (has new) ≡ sum_below 256 (has old) =
    sym (below-plus 256 (λ b. if_so (t b && o b) 1) (has new)) ∙ below-same 256 _ _ each
    in
    omega (arith, sum, both, size-is old, size-is new)

-- A byte that a draw may have is in its class, left, or neither. If one of two alike bytes is left, the other one is too.
pub record IsFair (a : Asked) (node : Node) : Type 0 where
  pub asks : CanAsk a
  pub total : node.total ≡ count_of (may_of a)
  pub count : node.count ≡ count_of (λ b. may_of a b && is_on node b)
  pub rest : (b : ℕ) → b < 256 → has node.rest b ≡ 1 → IsTrue (may_of a b)
  pub apart : (b : ℕ) → b < 256 → is_on node b ≡ true → has node.rest b ≡ 0
  pub whole : (x y : ℕ) → x < 256 → y < 256 → IsTrue (may_of a y) → alike_in node.damage_classes node.look x y ≡ true → has node.rest x ≡ 1
      → has node.rest y ≡ 1

alike_with : (node : Node) (x y : ℕ) → alike_in node.damage_classes node.look x y ≡ true → is_on node x ≡ is_on node y
alike_with node x y e =
    let n = node.damage_classes in
    ap (λ (p : ℕ). told n node.look node.byte == p) (same_of (told n node.look x) (told n node.look y) e)

-- What is left of a set after a class is taken.
left_one : (o : Bool) (m r : ℕ) → r ≡ cond o 0 m → r ≡ 1 → (o ≡ false) × (m ≡ 1)
left_one true m r e is = absurd (omega (arith, e, is))
left_one false m r e is = (refl, sym e ∙ is)

pub off_left : (a : Asked) (node : Node) (b : ℕ) → IsFair a node → b < 256 → has node.rest b ≡ 1 → is_on node b ≡ false
off_left a node b fair lt is = by (is_on node b) refl
  where
    by : (o : Bool) → is_on node b ≡ o → o ≡ false
    by true e = absurd (omega (arith, fair.apart b lt e, is))
    by false e = refl

may_true : (t : Bool) (m : ℕ) → m ≡ cond t 1 0 → m ≡ 1 → t ≡ true
may_true true m e is = refl
may_true false m e is = absurd (omega (arith, e, is))

-- A draw that is new.
pub record IsNewFor (a : Asked) (may : ByteSet) (node : Node) : Type 0 where
  pub asks : CanAsk a
  pub set : (b : ℕ) → b < 256 → has may b ≡ cond (may_of a b) 1 0
  pub rest : (b : ℕ) → b < 256 → has node.rest b ≡ cond (is_on node b) 0 (has may b)
  pub total : node.total ≡ size may
  pub both : node.count + size node.rest ≡ size may

pub fair_new : (a : Asked) (may : ByteSet) (node : Node) → IsNewFor a may node → IsFair a node
fair_new a may node new =
    record {
      asks = new.asks;
      total = new.total ∙ size-is may ∙ below-same 256 _ _ new.set;
      count = counts (may_of a) (is_on node) may node.rest node.count new.both
          (λ b lt. each (may_of a b) (is_on node b) (has may b) (has node.rest b) (new.set b lt) (new.rest b lt));
      rest = λ b lt is.
          may_true (may_of a b) (has may b) (new.set b lt) (left_one (is_on node b) (has may b) (has node.rest b) (new.rest b lt) is).1;
      apart = λ b lt e. new.rest b lt ∙ ap (λ (o : Bool). cond o 0 (has may b)) e;
      whole = λ x y below lt is alike one.
          let off = (left_one (is_on node x) (has may x) (has node.rest x) (new.rest x below) one).0 in
          new.rest y lt ∙ ap (λ (o : Bool). cond o 0 (has may y)) (sym (alike_with node x y alike) ∙ off) ∙ new.set y lt ∙ ap (λ (t : Bool). cond t 1 0) is;
    }
  where
    each : (t o : Bool) (m r : ℕ) → m ≡ cond t 1 0 → r ≡ cond o 0 m → if_so (t && o) 1 + r ≡ m
    each true true m r e f = omega (arith, e, f)
    each true false m r e f = omega (arith, e, f)
    each false true m r e f = omega (arith, e, f)
    each false false m r e f = omega (arith, e, f)

-- All its bytes are left but those of its class.
pub full_new : (a : Asked) (may : ByteSet) (node : Node) → IsNewFor a may node → (b : ℕ) → b < 256 → IsTrue (may_of a b) → is_on node b ≡ false → has node.rest b ≡ 1
full_new a may node new b lt is off =
    new.rest b lt ∙ ap (λ (o : Bool). cond o 0 (has may b)) off ∙ new.set b lt ∙ ap (λ (t : Bool). cond t 1 0) is

-- A draw that takes its next class.
module _ (a : Asked) (old new : Node) (fair : IsFair a old) (goes : GoesOn old new) where
  goes_alike : (x y : ℕ) → alike_in old.damage_classes old.look x y ≡ alike_in new.damage_classes new.look x y
  goes_alike x y = let takes = goes.takes in rw (takes.look, takes.classes) refl

  pub goes_rest : (b : ℕ) → b < 256 → has new.rest b ≡ cond (is_on new b) 0 (has old.rest b)
  goes_rest b lt = goes.takes.rest b lt ∙ ap (λ (o : Bool). cond o 0 (has old.rest b)) (goes_alike new.byte b)

  pub goes_was : (b : ℕ) → b < 256 → IsTrue (may_of a b) → is_on new b ≡ true → has old.rest b ≡ 1
  goes_was b lt is on = fair.whole new.byte b goes.small lt is (goes_alike new.byte b ∙ on) goes.remained

  pub fair_goes : IsFair a new
  fair_goes =
      record {
        asks = fair.asks;
        total = goes.takes.total ∙ fair.total;
        count = counts (may_of a) (is_on new) old.rest new.rest new.count goes.takes.count
            (λ b lt. each b (may_of a b) (is_on new b) (has new.rest b) (goes_rest b lt) (goes_was b lt) (fair.rest b lt));
        rest = λ b lt is. fair.rest b lt (left_one (is_on new b) (has old.rest b) (has new.rest b) (goes_rest b lt) is).1;
        apart = λ b lt e. goes_rest b lt ∙ ap (λ (o : Bool). cond o 0 (has old.rest b)) e;
        whole = λ x y below lt is alike one.
            let was = left_one (is_on new x) (has old.rest x) (has new.rest x) (goes_rest x below) one in
            goes_rest y lt ∙ ap (λ (o : Bool). cond o 0 (has old.rest y)) (sym (alike_with new x y alike) ∙ was.0)
            ∙ fair.whole x y below lt is (goes_alike x y ∙ alike) was.1;
      }
    where
      each : (b : ℕ) (t o : Bool) (r : ℕ) → r ≡ cond o 0 (has old.rest b) → (IsTrue t → o ≡ true → has old.rest b ≡ 1) → (has old.rest b ≡ 1 → IsTrue t)
          → if_so (t && o) 1 + r ≡ has old.rest b
      each b true true r e was may = omega (arith, e, was refl refl)
      each b true false r e was may = omega (arith, e)
      each b false true r e was may =
          elim (has_or old.rest b) [
            | inl none ↦ omega (arith, e, none)
            | inr one ↦ absurd (true_not false (may one) refl)
          ]
      each b false false r e was may = omega (arith, e)
