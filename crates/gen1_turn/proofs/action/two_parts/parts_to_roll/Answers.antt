use Rattle.gen1_layout.proofs.Words.{ap, drawn_quietly, given, refl, sym, then-goes, ◌∙◌, ◌▸◌}
use Rattle.gen1_rolls.specs.Draws.{by_then}
use Rattle.gen1_machine.specs.Action.{action_parts, carry_out, gate_or_held, move_taken_in, see_if_going_on}
use Rattle.gen1_machine.specs.Moves.{Move, move_at}
use Rattle.gen1_machine.specs.Progress.{Progress}
use Rattle.gen1_machine.specs.Ruling.{ruling_of}
use Rattle.gen1_status.proofs.Told.{went}
use Rattle.gen1_hits.proofs.Knowledge.{does_still, over_stops}
use Rattle.gen1_hits.proofs.Planning.{awake, before-from, gates, sees, taken-number, taking-from, used-fits}
use Rattle.gen1_turn.proofs.Turns.{over_gate}
use Rattle.gen1_turn.proofs.TwoParts.{fresh-still, sees-fresh}
use Rattle.gen1_turn.proofs.action.two_parts.parts_to_roll.Goals as goal

pub returns-then-stops-clause-shown : goal.returns-then-stops-clause-shown
unfolding action_parts
returns-then-stops-clause-shown t c since g p begun plan begins v quiet h =
    over_stops c.args.known.now g _ _ (over_gate c.args.known.now g _ (sym c.stops.ensures ∙ c.if-stops.true) (c.gate.ensures.shown since _ _ h))

pub returns-clause-shown : goal.returns-clause-shown
unfolding action_parts given
returns-clause-shown t c since g p begun plan begins v quiet h =
    let terms = g.setting.terms in
    let r = ruling_of terms in
    let s = c.args.side in
    let pick = c.args.pick in
    let a = (went (sym c.stops.ensures ∙ c.if-stops.false) (c.gate.ensures.shown (by_then c.carry_to_roll.ensures.steps since) _ _ h)).shows in
    let b = drawn_quietly a (does_still g _ (c.see_if_going_on.ensures.shown _)) in
    let up = awake s pick p a.shows.ends in
    let valid = (sees terms plan s pick).kept _ ((gates terms plan s pick).kept p (v, quiet)) in
    let number = taken-number terms plan s pick _ _ _ up begins valid.0 in
    let taking = taking-from terms plan s pick _ _ _ up begins valid.0 in
    let used = used-fits terms plan s pick _ _ _ _ taking valid.0 in
    let id = c.move_taken-id.ensures.stands _ _ b.shows.within used number in
    let gone = gate_or_held s pick p in
    let q = see_if_going_on s pick gone in
    let new = sees-fresh s pick gone (fresh-still {k = c.args.known.now} {k' = c.args.known.now} g s refl h a begun) in
    let d = c.carry_to_roll.ensures.shown since g q new plan (rw id taking) (before-from pick _ valid.0 valid.1) b in
    let rest = given (λ (x : Progress). move_taken_in s pick x.field) (carry_out r s pick) in
    let leads = then-goes (gate_or_held s pick) (see_if_going_on s pick ▸ rest) p a.shows.ends ∙ then-goes (see_if_going_on s pick) rest gone b.shows.ends
    ∙ ap (λ (m : Move). carry_out r s pick m q) (sym (ap move_at id)) in
    rw leads d
