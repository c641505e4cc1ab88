use Rattle.gen1_layout.proofs.Words.{Action, ap, drawn_quietly, put_damage, set_last_damage, still, sym, then-goes, ◌∙◌, ◌▸◌}
use Rattle.gen1_rolls.specs.Draws.{by_then}
use Rattle.gen1_machine.specs.Action.{strike, usual_damage}
use Rattle.gen1_machine.specs.CriticalHits.{roll_critical}
use Rattle.gen1_machine.specs.Damage.{roll_damage}
use Rattle.gen1_machine.specs.HitTest.{hit_or_miss}
use Rattle.gen1_machine.specs.Moves.{move_at}
use Rattle.gen1_machine.specs.Ruling.{ruling_of}
use Rattle.gen1_hits.specs.Knowing.{knowing}
use Rattle.gen1_turn.specs.Action.{late_part}
use Rattle.gen1_turn.proofs.TwoParts.{critical-fresh, then-same, then-then}
use Rattle.gen1_turn.proofs.action.two_parts.critical_to_roll.Goals as goal

pub returns-clause-shown : goal.returns-clause-shown
unfolding usual_damage
returns-clause-shown t c since g p begun usual quiet h =
    let s = c.args.side in
    let move = move_at c.args.id in
    let r = ruling_of g.setting.terms in
    let critical = c.critical-known.result in
    let a = still h (put_damage h.shows 0 (c.put_last_damage.ensures.stands _ _ h.shows.within)) in
    let b = drawn_quietly a (c.critical-known.ensures.shown _ (by_then c.damage_to_roll.ensures.steps since) (knowing c.args.known.now g) _) in
    let x = roll_critical s move (set_last_damage 0 p) in
    let is = b.shows.action ∙ ap (λ (a : Action). record a { critical = critical }) (sym h.shows.action) in
    let new = critical-fresh s critical p x (b.shows.skips ∙ sym h.shows.skips) is begun in
    let d = c.damage_to_roll.ensures.shown since g x new usual (ap (λ (a : Action). a.letting_go) is ∙ quiet) b in
    let found = roll_damage s move ▸ hit_or_miss s move in
    let struck = late_part r s move ▸ strike r s move in
    let comes = then-goes (set_last_damage 0) (roll_critical s move ▸ found) p a.shows.ends ∙ then-goes (roll_critical s move) found (set_last_damage 0 p) b.shows.ends in
    let leads = then-same (usual_damage s move) found struck p x comes ∙ then-then (roll_damage s move) (hit_or_miss s move) struck x in
    rw leads d
