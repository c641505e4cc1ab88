use Rattle.gen1_layout.proofs.Words.{ap, drawn_as_list, drawn_from_list, drawn_settled, drawn_stops, sym, then-goes, then-stops, ◌∙◌, ◌▸◌}
use Rattle.gen1_machine.specs.Action.{damage_of, lands_at_once, strike}
use Rattle.gen1_machine.specs.Moves.{move_at}
use Rattle.gen1_machine.specs.Progress.{unless}
use Rattle.gen1_machine.specs.Ruling.{ruling_of}
use Rattle.gen1_machine.proofs.Sound.{is-move}
use Rattle.gen1_hits.proofs.Planning.{damages}
use Rattle.gen1_turn.specs.Action.{late_part}
use Rattle.gen1_turn.proofs.Damage.{late-stops, like-goes, like-halted, like-valid, struck-like}
use Rattle.gen1_rolls.specs.Draws.{by_then}
use Rattle.gen1_turn.proofs.action.steps.damage_and_strike.Goals as goal

pub returns-then-damage_unless_landing-clause-shown : goal.returns-then-damage_unless_landing-clause-shown
returns-then-damage_unless_landing-clause-shown t c since g p plan doing v h =
    let x = c.damage_unless_landing.ensures.shown _ since g p (drawn_as_list h) in
    let a = drawn_settled c.if-damage_unless_landing.true (drawn_from_list h x.1) in
    let same = like-halted c.args.side x.0 _ x.2.0 a.shows.ends in
    drawn_stops _ _ (rw (← same) a)

pub returns-then-late_part-clause-shown : goal.returns-then-late_part-clause-shown
returns-then-late_part-clause-shown t c since g p plan doing v h =
    let s = c.args.side in
    let move = move_at c.args.id in
    let r = ruling_of g.setting.terms in
    let damage = unless (lands_at_once move) (damage_of s move move.effect) in
    let x = c.damage_unless_landing.ensures.shown _ (by_then c.late_part.ensures.steps since) g p (drawn_as_list h) in
    let a = drawn_settled c.if-damage_unless_landing.false (drawn_from_list h x.1) in
    let valid = like-valid g.setting.terms plan s x.0 (damage p) x.2.0 ((damages g.setting.terms plan s move (is-move c.args.id)).kept p v) in
    let b = drawn_settled c.if-late_part.true (c.late_part.ensures.shown since g x.0 plan doing valid a) in
    let same = x.2.1 (late-stops r s move x.0 a.shows.ends b.shows.ends) in
    let is = then-goes damage (late_part r s move ▸ strike r s move) p (like-goes s x.0 (damage p) x.2.0 a.shows.ends)
    ∙ ap (late_part r s move ▸ strike r s move) (sym same) ∙ then-stops (late_part r s move) (strike r s move) x.0 b.shows.ends in
    rw is b

pub returns-clause-shown : goal.returns-clause-shown
returns-clause-shown t c since g p plan doing v h =
    let s = c.args.side in
    let move = move_at c.args.id in
    let r = ruling_of g.setting.terms in
    let damage = unless (lands_at_once move) (damage_of s move move.effect) in
    let x = c.damage_unless_landing.ensures.shown _ (by_then c.late_part.ensures.steps (by_then c.strike.ensures.steps since)) g p (drawn_as_list h) in
    let a = drawn_settled c.if-damage_unless_landing.false (drawn_from_list h x.1) in
    let valid = like-valid g.setting.terms plan s x.0 (damage p) x.2.0 ((damages g.setting.terms plan s move (is-move c.args.id)).kept p v) in
    let b = drawn_settled c.if-late_part.false (c.late_part.ensures.shown (by_then c.strike.ensures.steps since) g x.0 plan doing valid a) in
    let is = then-goes damage (late_part r s move ▸ strike r s move) p (like-goes s x.0 (damage p) x.2.0 a.shows.ends)
    ∙ struck-like r s move x.0 (damage p) x.2 a.shows.ends b.shows.ends in
    rw is (c.strike.ensures.shown since g _ b)
