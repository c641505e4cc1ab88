use Rattle.gen1_layout.proofs.Words.{Progress, ap, drawn_quietly, then-goes, ◌∙◌, ◌▸◌}
use Rattle.gen1_machine.specs.Action.{strike}
use Rattle.gen1_machine.specs.HitTest.{hit_or_miss}
use Rattle.gen1_machine.specs.Moves.{move_at}
use Rattle.gen1_machine.specs.Ruling.{ruling_of}
use Rattle.gen1_turn.specs.Action.{late_part}
use Rattle.gen1_turn.proofs.Damage.{late-none}
use Rattle.gen1_turn.proofs.TwoParts.{not-late}
use Rattle.gen1_rolls.specs.Draws.{by_then}
use Rattle.gen1_turn.proofs.action.two_parts.test_and_strike.Goals as goal

pub returns-clause-shown : goal.returns-clause-shown
returns-clause-shown t c since g p usual h =
    let s = c.args.side in
    let move = move_at c.args.id in
    let r = ruling_of g.setting.terms in
    let hit = hit_or_miss s move in
    let a = drawn_quietly h (c.hit_or_miss.ensures.shown _ (by_then c.strike.ensures.steps since) g p) in
    let none = late-none r s move (hit p) (not-late c.args.id usual) in
    let is = then-goes hit (late_part r s move ▸ strike r s move) p a.shows.ends
    ∙ then-goes (late_part r s move) (strike r s move) (hit p) (ap (λ (x : Progress). x.stopped) none ∙ a.shows.ends)
    ∙ ap (strike r s move) none in
    rw is (c.strike.ensures.shown since g (hit p) a)
