use Rattle.std.proofs.Common.{subst, sym, ℕ}
use Rattle.gen1_outcomes.specs.Weights.{IsLeft}
use Rattle.gen1_outcomes.proofs.Shares.{is_left}
use Rattle.gen1_outcomes.proofs.merging.leave_out.Goals as goal

pub returns-in-Some-clause-left : goal.returns-in-Some-clause-left
returns-in-Some-clause-left c =
    let mid = c.scaled_weight.new.tally in
    subst (λ (n : ℕ). IsLeft c.args.chance c.args.tally.now (record mid { left_out = n }) c.args.successors.now c.scaled_weight.new.successors) (sym c.in-Some.ensures.1)
    (is_left c.args.chance c.args.tally.now mid c.args.successors.now c.scaled_weight.new.successors c.in_ok-weight.weight
    c.in_ok-weight.ensures.keeps c.in_ok-weight.ensures.weight c.requires.below)
