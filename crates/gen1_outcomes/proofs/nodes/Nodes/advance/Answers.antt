use Rattle.std.proofs.Common.{arith, refl}
use Rattle.gen1_outcomes.proofs.Walking.{leads_on, led}
use Rattle.gen1_outcomes.proofs.nodes.Nodes.advance.Goals as goal

pub returns-then-advance_in-clause-on : goal.returns-then-advance_in-clause-on
returns-then-advance_in-clause-on c is =
    let goes = c.if-advance_in.ensures.on is in
    leads_on c.args.self.now _ c.places.self.list c.places.self.len goes.node goes.list refl c.places.invariant.at c.places.invariant.asked c.places.invariant.options c.places.invariant.before c.places.invariant.list c.places.invariant.shorter
    (omega arith) (omega (arith, goes.within)) goes.here c.places.invariant.done

pub returns-then-advance_in-clause-left : goal.returns-then-advance_in-clause-left
returns-then-advance_in-clause-left c is bytes small left = led c.args.self.now _ bytes small (returns-then-advance_in-clause-on c is) left
