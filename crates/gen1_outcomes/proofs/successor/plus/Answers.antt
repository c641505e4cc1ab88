use Rattle.std.proofs.Common.{◌≡◌, ℕ, ◌+◌, ◌*◌, ◌<◌, ap, ap₂, sym, ◌∙◌, arith, ◌/◌}
use Rattle.std.proofs.Math.Nat.{add-mul, div-mul_cancel, mul-add, mul_assoc, mul_comm, mul-div_cancel'}
use Rattle.std.specs.Int.{◌∣◌}
use Rattle.gen1_outcomes.proofs.Fractions.{both_positive, some_parts}
use Rattle.gen1_outcomes.proofs.Walking.{crossed}
use Rattle.gen1_outcomes.proofs.successor.plus.Goals as goal
use Rattle.gen1_outcomes.proofs.successor.plus.Goals.{then-whole-eq0-via-then-whole-eq0, then-whole-eq0-via-else-whole-eq0+in_ok-checked_mul+then-branch-whole}

-- a of p and b of q, over a common denominator.
sum_is : (a m p b n q num whole : ℕ) → whole ≡ p * m → q * n ≡ whole → num ≡ a * m + b * n → num * (p * q) ≡ whole * (a * q + b * p)
sum_is a m p b n q num whole one other both =
    let first : a * m * (p * q) ≡ whole * (a * q) =
    crossed a m p q ∙ ap (λ (x : ℕ). x * (m * q)) (mul_comm a p) ∙ sym (crossed p m a q) ∙ ap (λ (x : ℕ). x * (a * q)) (sym one)
    in
    let second : b * n * (p * q) ≡ whole * (b * p) =
    ap (λ (x : ℕ). b * n * x) (mul_comm p q) ∙ crossed b n q p ∙ ap (λ (x : ℕ). x * (n * p)) (mul_comm b q) ∙ sym (crossed q n b p) ∙ ap (λ (x : ℕ). x * (b * p)) other
    in
    ap (λ (x : ℕ). x * (p * q)) both ∙ add-mul (a * m) (b * n) (p * q) ∙ ap₂ (λ (x y : ℕ). x + y) first second ∙ sym (mul-add whole (a * q) (b * p))

pub returns-clause-sum : goal.returns-clause-sum
returns-clause-sum c =
    let divisor = c.common_divisor-divisor.result in
    sum_is c.args.one.num (c.args.other.whole / divisor) c.args.one.whole c.args.other.num (c.args.one.whole / divisor) c.args.other.whole _ _
    (grind arith) (grind arith) (grind arith)

-- The common denominator is above 0, and the same from both sides.
turned_over : (a b g : ℕ) → g ∣ a → g ∣ b → a * (b / g) ≡ b * (a / g)
turned_over a b g one other =
    ap (λ (x : ℕ). x * (b / g)) (sym (div-mul_cancel g one)) ∙ mul_assoc (a / g) g (b / g) ∙ ap (λ (x : ℕ). a / g * x) (mul-div_cancel' g other) ∙ mul_comm (a / g) b

pub returns-then-whole-eq0-clause-none : goal.returns-then-whole-eq0-clause-none
returns-then-whole-eq0-clause-none c =
    let g = c.common_divisor-divisor.result in
    let divides = c.common_divisor-divisor.ensures.greatest in
    let a = c.args.one.whole in
    let b = c.args.other.whole in
    let some : 0 < a * (b / g) = both_positive a (b / g) c.args.one.positive (some_parts b g c.args.other.positive c.common_divisor-divisor.ensures.positive divides.1) in
    let same : a * (b / g) ≡ b * (a / g) = turned_over a b g divides.0 divides.1 in
    elim c.then-whole-eq0.branch [
      | then-whole-eq0-via-then-whole-eq0 w ↦ absurd (grind (arith, some, w.if-whole-eq0))
      | then-whole-eq0-via-else-whole-eq0+in_ok-checked_mul+then-branch-whole w ↦ absurd (grind (arith, same, w.if-branch-whole))
    ]
