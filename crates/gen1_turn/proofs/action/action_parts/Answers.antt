use Rattle.gen1_layout.proofs.Words.{ap, drawn_goes, drawn_quietly, drawn_seeing, sym, ◌∙◌}
use Rattle.gen1_machine.specs.Action.{action_parts, carry_out}
use Rattle.gen1_machine.specs.Moves.{move_at}
use Rattle.gen1_machine.specs.Ruling.{ruling_of}
use Rattle.gen1_status.proofs.Told.{went}
use Rattle.gen1_hits.proofs.Knowledge.{does_still, over, over_stops}
use Rattle.gen1_hits.proofs.Planning.{awake, before-from, gates, sees, taken-number, taking-from, used-fits}
use Rattle.gen1_turn.proofs.Turns.{over_gate}
use Rattle.gen1_rolls.specs.Draws.{by_then}
use Rattle.gen1_turn.proofs.action.action_parts.Goals as goal

pub returns-then-stops-clause-shown : goal.returns-then-stops-clause-shown
unfolding action_parts
returns-then-stops-clause-shown t c since g p plan begins v quiet h =
    over_stops c.args.known.now g _ _ (over_gate c.args.known.now g _ (sym c.stops.ensures ∙ c.if-stops.true) (c.gate.ensures.shown since _ _ h))

pub returns-clause-shown : goal.returns-clause-shown
unfolding action_parts
returns-clause-shown t c since g p plan begins v quiet h =
    let terms = g.setting.terms in
    let s = c.args.side in
    let pick = c.args.pick in
    let a = (went (sym c.stops.ensures ∙ c.if-stops.false) (c.gate.ensures.shown (by_then c.carry_out.ensures.steps since) _ _ h)).shows in
    let b = drawn_quietly a (does_still g _ (c.see_if_going_on.ensures.shown _)) in
    let up = awake s pick p a.shows.ends in
    let valid = (sees terms plan s pick).kept _ ((gates terms plan s pick).kept p (v, quiet)) in
    let number = taken-number terms plan s pick _ _ _ up begins valid.0 in
    let taking = taking-from terms plan s pick _ _ _ up begins valid.0 in
    let used = used-fits terms plan s pick _ _ _ _ taking valid.0 in
    let id = c.move_taken-id.ensures.stands _ _ b.shows.within used number in
    over c.carry_out.new.known g (drawn_goes _ _ a (drawn_goes _ _ b (drawn_seeing _ (carry_out (ruling_of terms) s pick) (ap move_at id)
    (c.carry_out.ensures.shown since g _ plan (rw id taking) (before-from pick _ valid.0 valid.1) b))))
