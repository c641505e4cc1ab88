use Rattle.std.proofs.Common.{inr}
use Rattle.gen1_outcomes.proofs.Stages.{keeps_all, keeps_none}
use Rattle.gen1_outcomes.proofs.outcomes.make_room.Goals as goal

pub returns-in_ok-go_on_from-clause-every : goal.returns-in_ok-go_on_from-clause-every
returns-in_ok-go_on_from-clause-every c exact least s of stream is handled = inr (c.in_ok-go_on_from.ensures.every exact least s of stream is handled)

pub returns-in_ok-go_on_from-clause-parts : goal.returns-in_ok-go_on_from-clause-parts
returns-in_ok-go_on_from-clause-parts c exact least are =
    keeps_none c.args.ways.now c.args.middles.now c.clear.new.self c.args.tally.now c.go_on_from.new.tally c.args.successors.now c.go_on_from.new.successors c.clear.ensures
    (c.in_ok-go_on_from.ensures.parts exact least are)

pub returns-else-is_full-clause-parts : goal.returns-else-is_full-clause-parts
returns-else-is_full-clause-parts c exact least are = keeps_all c.args.ways.now c.args.middles.now c.args.tally.now c.args.successors.now
