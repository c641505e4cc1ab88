use Rattle.std.proofs.Common.{cond, subst, sym, ◌<◌, ◌≡◌, ◌∙◌, ℕ}
use Rattle.gen1_rolls.specs.declared.rolls.Look.TheVariants.{Below}
use Rattle.gen1_rolls.specs.declared.rolls.Look.{Look}
use Rattle.gen1_outcomes.specs.declared.byte_set.ByteSet.{ByteSet}
use Rattle.gen1_outcomes.specs.Bytes.{has, size, alike_in}
use Rattle.gen1_outcomes.proofs.Sets.{size_all, weighs}
use Rattle.gen1_outcomes.proofs.nodes.Node.new.Goals as goal

pub returns-in-Below-clause-total : goal.returns-in-Below-clause-total
returns-in-Below-clause-total c = c.of_bound.ensures.total ∙ sym (size_all c.args.may_have.now (c.is_all.ensures c.if-is_all.true))

pub returns-in-Below-clause-count : goal.returns-in-Below-clause-count
returns-in-Below-clause-count c = c.of_bound.ensures.count ∙ sym (size_all c.args.may_have.now (c.is_all.ensures c.if-is_all.true))

pub returns-in-Below-clause-weight : goal.returns-in-Below-clause-weight
returns-in-Below-clause-weight c =
    let may = c.args.may_have.now in
    let bound = c.in-Below.bound in
    let rest : (x : ℕ) → x < 256 → has c.of_bound.result.rest x ≡ cond (alike_in c.args.damage_classes (Below bound) c.args.byte x) 0 (has may x) =
    λ x lt. rw (c.is_all.ensures c.if-is_all.true x lt) (c.of_bound.ensures.rest x lt)
    in
    subst
    (λ (l : Look). (class : ByteSet) → ((x : ℕ) → x < 256 → has class x ≡ cond (alike_in c.args.damage_classes l c.args.byte x) (has may x) 0)
    → c.of_bound.result.count ≡ size class)
    (sym c.in-Below.is) (weighs c.args.damage_classes (Below bound) c.args.byte may c.of_bound.result.rest c.of_bound.result.count (returns-in-Below-clause-count c) rest)
