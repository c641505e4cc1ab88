use Rattle.gen1_layout.proofs.Words.{drawn_goes, drawn_settled, drawn_stops, still}
use Rattle.gen1_machine.specs.Action.{lead_up}
use Rattle.gen1_machine.specs.Charging.{charge}
use Rattle.gen1_machine.specs.Moves.{move_at}
use Rattle.gen1_machine.proofs.Sound.{is-move}
use Rattle.gen1_hits.specs.Knowing.{knowing}
use Rattle.gen1_hits.proofs.Planning.{before-valid, charge-passes, doing, next, use_move-leads, used-fits, went-on}
use Rattle.gen1_turn.proofs.action.lead_up.lead_up.Goals as goal

pub returns-then-charge_knowing-clause-shown : goal.returns-then-charge_knowing-clause-shown
unfolding lead_up
returns-then-charge_knowing-clause-shown t c since g p plan taking v h =
    drawn_stops _ _ (drawn_settled c.if-charge_knowing.true (still {g' = knowing c.args.known.now g} h (c.charge_knowing.ensures.shown (record g { stream = since.source.stream; drawn = p.drawn }) p plan taking v h.shows)))

pub returns-clause-shown : goal.returns-clause-shown
unfolding lead_up
returns-clause-shown t c since g p plan taking v h =
    let terms = g.setting.terms in
    let s = c.args.side in
    let pick = c.args.pick in
    let move = move_at c.args.id in
    let is = is-move c.args.id in
    let a = drawn_settled c.if-charge_knowing.false (still {g' = knowing c.args.known.now g} h (c.charge_knowing.ensures.shown (record g { stream = since.source.stream; drawn = p.drawn }) p plan taking v h.shows)) in
    let valid = went-on _ p (charge-passes terms plan s move is pick) a.shows.ends (before-valid pick p v) in
    let used = used-fits terms plan s pick move.effect _ _ _ taking valid in
    let b = still a (c.use_move.ensures.shown (record g { stream = since.source.stream; drawn = (charge s pick move p).drawn }) _ used a.shows) in
    let after = (use_move-leads terms plan s move is pick taking).led _ valid in
    drawn_goes _ _ a (drawn_goes _ _ b (c.begin_move.ensures.shown since g _ (next terms plan s move is) (doing terms plan s move is) after b))
