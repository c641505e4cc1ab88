use Rattle.std.proofs.Common.{ap, arith, refl, ℕ, ◌*◌}
use Rattle.gen1_outcomes.proofs.Complete.{on_ok_of}
use Rattle.gen1_outcomes.proofs.Shares.{stay_less}
use Rattle.gen1_outcomes.proofs.outcomes.keep.Goals as goal

pub returns-then-is_below-clause-probable : goal.returns-then-is_below-clause-probable
returns-then-is_below-clause-probable c =
    stay_less c.args.middle.now.chance c.args.tally.now c.leave_out.new.tally c.count_ways.new.self c.args.successors.now c.leave_out.new.successors
    c.args.middle.now.ways c.count_ways.result c.args.middle.now.some c.in_ok-leave_out.ensures.left c.count_ways.ensures.counts

pub returns-then-is_below-clause-every : goal.returns-then-is_below-clause-every
returns-then-is_below-clause-every c =
    on_ok_of c.count_ways.result _ (λ least.
    let below = c.if-is_below.ensures.below refl in
    let m = c.args.middle.now in
    absurd (omega (arith, below, ap (λ (n : ℕ). n * m.chance.whole) least)))

pub returns-then-is_below-clause-still : goal.returns-then-is_below-clause-still
returns-then-is_below-clause-still c =
    on_ok_of c.count_ways.result _ (λ least.
    let below = c.if-is_below.ensures.below refl in
    let m = c.args.middle.now in
    absurd (omega (arith, below, ap (λ (n : ℕ). n * m.chance.whole) least)))
