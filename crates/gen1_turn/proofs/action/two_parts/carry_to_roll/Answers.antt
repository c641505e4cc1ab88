use Rattle.gen1_layout.proofs.Words.{drawn_goes, drawn_settled, drawn_stops, then-goes, ◌∙◌, ◌▸◌}
use Rattle.gen1_rolls.specs.Draws.{by_then}
use Rattle.gen1_machine.specs.Action.{carry_out, lead_up, lets_energy_go}
use Rattle.gen1_machine.specs.GoingOn.{bide_goes_on}
use Rattle.gen1_machine.specs.Moves.{move_at}
use Rattle.gen1_machine.specs.Progress.{unless}
use Rattle.gen1_machine.specs.Ruling.{ruling_of}
use Rattle.gen1_machine.proofs.Sound.{is-move}
use Rattle.gen1_hits.proofs.Knowledge.{does_still, over}
use Rattle.gen1_hits.proofs.Planning.{bide-before, doing, led_up, next}
use Rattle.gen1_turn.specs.Action.{damage_and_strike}
use Rattle.gen1_turn.proofs.TwoParts.{bide-fresh, fresh-still}
use Rattle.gen1_turn.proofs.action.two_parts.carry_to_roll.Goals as goal

pub returns-then-bide_knowing-clause-shown : goal.returns-then-bide_knowing-clause-shown
unfolding carry_out
returns-then-bide_knowing-clause-shown t c since g p begun plan taking v h =
    over c.bide_knowing.new.known g (drawn_stops _ _ (drawn_settled c.if-bide_knowing.true (does_still g _ c.bide_knowing.ensures.shown h)))

pub returns-then-lead_up_unless_let_go-clause-shown : goal.returns-then-lead_up_unless_let_go-clause-shown
unfolding carry_out
returns-then-lead_up_unless_let_go-clause-shown t c since g p begun plan taking v h =
    let a = drawn_settled c.if-bide_knowing.false (does_still g _ c.bide_knowing.ensures.shown h) in
    let before = bide-before g.setting.terms plan c.args.side (move_at c.args.id) (is-move c.args.id) c.args.pick p taking v in
    over c.lead_up_unless_let_go.new.known g
    (drawn_goes _ _ a (drawn_stops _ _ (drawn_settled c.if-lead_up_unless_let_go.true (c.lead_up_unless_let_go.ensures.shown since g _ plan taking before a))))

pub returns-clause-shown : goal.returns-clause-shown
unfolding carry_out
returns-clause-shown t c since g p begun plan taking v h =
    let terms = g.setting.terms in
    let r = ruling_of terms in
    let s = c.args.side in
    let move = move_at c.args.id in
    let is = is-move c.args.id in
    let a = drawn_settled c.if-bide_knowing.false (does_still g _ c.bide_knowing.ensures.shown h) in
    let before = bide-before terms plan s move is c.args.pick p taking v in
    let b = drawn_settled c.if-lead_up_unless_let_go.false (c.lead_up_unless_let_go.ensures.shown (by_then c.strike_to_roll.ensures.steps since) g _ plan taking before a) in
    let valid = led_up terms plan s move is c.args.pick _ taking before b.shows.ends in
    let new = fresh-still g s (c.lead_up_unless_let_go.ensures.same c.if-lead_up_unless_let_go.false) a b (bide-fresh s p h.shows.ends a.shows.ends begun) in
    let d = c.strike_to_roll.ensures.shown since g _ new (next terms plan s move is) (doing terms plan s move is) valid b in
    let lead = unless lets_energy_go (lead_up s c.args.pick move) in
    let leads = then-goes (bide_goes_on s) (lead ▸ damage_and_strike r s move) p a.shows.ends ∙ then-goes lead (damage_and_strike r s move) (bide_goes_on s p) b.shows.ends in
    rw leads d
