use Rattle.std.proofs.Common.{arith, ap, sym, ◌∙◌, ℕ, ◌≡◌, ◌<◌, ◌≤◌, ◌+◌, ◌*◌, ◌/◌, ◌%◌}
use Rattle.std.proofs.Math.Nat.{mul-add, mul_assoc}
use Rattle.gen1_outcomes.proofs.successor.is_below.Goals as goal

-- A product with a number of two words.
words : (least whole : ℕ) → least * whole ≡ least * (whole / 4294967296) * 4294967296 + least * (whole % 4294967296)
words least whole =
    let both : whole ≡ whole / 4294967296 * 4294967296 + whole % 4294967296 = omega arith in
    ap (λ (x : ℕ). least * x) both ∙ mul-add least (whole / 4294967296 * 4294967296) (whole % 4294967296)
    ∙ ap (λ (x : ℕ). x + least * (whole % 4294967296)) (sym (mul_assoc least (whole / 4294967296) 4294967296))

below : (num high low product : ℕ) → product ≡ high * 4294967296 + low → num < high + (low + 4294967295) / 4294967296 → num * 4294967296 < product
below num high low product is lt = omega (arith, is, lt)

at_least : (num high low product : ℕ) → product ≡ high * 4294967296 + low → high + (low + 4294967295) / 4294967296 ≤ num → product ≤ num * 4294967296
at_least num high low product is le = omega (arith, is, le)

pub returns-clause-below : goal.returns-clause-below
returns-clause-below c is =
    below c.args.chance.num (c.args.least * (c.args.chance.whole / 4294967296)) (c.args.least * (c.args.chance.whole % 4294967296)) _
    (words c.args.least c.args.chance.whole) (grind (arith, is))

pub returns-clause-kept : goal.returns-clause-kept
returns-clause-kept c is =
    at_least c.args.chance.num (c.args.least * (c.args.chance.whole / 4294967296)) (c.args.least * (c.args.chance.whole % 4294967296)) _
    (words c.args.least c.args.chance.whole) (grind (arith, is))
