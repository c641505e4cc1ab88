use Rattle.gen1_layout.proofs.Words.{drawn_settled, true}
use Rattle.gen1_machine.specs.Moves.{move_at}
use Rattle.gen1_machine.specs.Ruling.{ruling_of}
use Rattle.gen1_hits.proofs.Knowledge.{over_stops}
use Rattle.gen1_turn.specs.TwoParts.{from_test}
use Rattle.gen1_turn.proofs.Turns.{acted_left}
use Rattle.gen1_turn.proofs.TwoParts.{resumed-goes}
use Rattle.gen1_turn.proofs.turn_update.parts.act_after_test.Goals as goal

pub returns-then-from_test-clause-shown : goal.returns-then-from_test-clause-shown
returns-then-from_test-clause-shown t c since g p q usual like h =
    let b = c.from_test.ensures.shown since g p q usual like h in
    λ rest. (true, over_stops c.from_test.new.known g _ _ (b.0, drawn_settled c.if-from_test.true b.1))

pub returns-clause-shown : goal.returns-clause-shown
returns-clause-shown t c since g p q usual like h =
    let s = c.args.side in
    let k = c.from_test.new.known in
    let b = c.from_test.ensures.shown since g p q usual like h in
    let d = drawn_settled c.if-from_test.false b.1 in
    acted_left k g _ _ _ c.suffer.result (from_test (ruling_of g.setting.terms) s (move_at c.args.id)) s q (b.0, d) (c.suffer.ensures.shown _ _ (resumed-goes _ d.shows.ends) d.shows)
