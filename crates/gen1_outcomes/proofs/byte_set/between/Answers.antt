use Rattle.std.proofs.Common.{ap, ap₂, min, ◌-◌, ℕ, ◌∙◌}
use Rattle.std.proofs.lemmas.Nat.Bits.{bit_at_and}
use Rattle.std.specs.Int.{bit_at}
use Rattle.gen1_outcomes.proofs.Sets.{only_odd}
use Rattle.gen1_outcomes.proofs.byte_set.between.Goals as goal

pub returns-then-first-ge128 : goal.returns-then-first-ge128
returns-then-first-ge128 c i lt =
    c.minus.ensures i lt ∙ ap (λ (n : ℕ). n - bit_at c.odd_below-then-first-ge128.result i) (bit_at_and c.args.word c.odd_below.result i)
    ∙ ap₂ (λ (m n : ℕ). min (bit_at c.args.word i) m - n) (c.odd_below.ensures i lt) (c.odd_below-then-first-ge128.ensures i lt)
    ∙ only_odd (bit_at c.args.word i) c.args.first c.args.next c.args.least i lt c.requires c.if-first-ge128.true

pub returns : goal.returns
returns c i lt =
    c.minus-2.ensures i lt ∙ ap (λ (n : ℕ). n - bit_at c.halves-2.result i) (bit_at_and c.args.word c.halves.result i)
    ∙ ap₂ (λ (m n : ℕ). min (bit_at c.args.word i) m - n) (c.halves.ensures i lt) (c.halves-2.ensures i lt)
