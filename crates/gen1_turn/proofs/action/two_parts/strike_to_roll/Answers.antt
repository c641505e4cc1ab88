use Rattle.std.proofs.Common.{◌&&◌, ◌||◌}
use Rattle.gen1_layout.proofs.Words.{Action, ap, choose-false, stay, sym, ◌∙◌, ◌▸◌}
use Rattle.gen1_tables.specs.Effects.{traps}
use Rattle.gen1_machine.specs.Action.{damage_of, lands_at_once, strike, usual_damage}
use Rattle.gen1_machine.specs.Moves.{move_at}
use Rattle.gen1_machine.specs.Progress.{unless}
use Rattle.gen1_machine.specs.Ruling.{ruling_of}
use Rattle.gen1_hits.proofs.Knowledge.{over}
use Rattle.gen1_turn.specs.Action.{late_part}
use Rattle.gen1_turn.proofs.TwoParts.{either-none, formula-used, then-same, usual-is}
use Rattle.gen1_turn.proofs.action.two_parts.strike_to_roll.Goals as goal

pub returns-then-has_formula-clause-shown : goal.returns-then-has_formula-clause-shown
returns-then-has_formula-clause-shown t c since g p begun plan doing v h =
    let s = c.args.side in
    let k = c.args.known.now in
    let move = move_at c.args.id in
    let r = ruling_of g.setting.terms in
    let used = formula-used _ _ (sym c.has_formula.ensures ∙ c.if-has_formula.true) in
    let not_at_once = ap (λ (a : Action). a.letting_go || (a.going_on && traps move.effect)) h.shows.action ∙ used.1 in
    let quiet = ap (λ (a : Action). a.letting_go) h.shows.action ∙ either-none k.letting_go (k.going_on && traps move.effect) used.1 in
    let d = c.critical_to_roll.ensures.shown since g p begun used.0 quiet h in
    let damage = damage_of s move move.effect in
    let is = choose-false (lands_at_once move) stay damage p not_at_once ∙ usual-is s move p used.0 in
    let leads = then-same (unless (lands_at_once move) damage) (usual_damage s move) (late_part r s move ▸ strike r s move) p p is in
    rw leads d

pub returns-clause-shown : goal.returns-clause-shown
returns-clause-shown t c since g p begun plan doing v h =
    over c.damage_and_strike.new.known g (c.damage_and_strike.ensures.shown since g p plan doing v h)
