use Rattle.gen1_layout.proofs.Words.{goes, seeing, settled, stops, sym}
use Rattle.gen1_machine.specs.Gate.{disable_count, gate_of_turn}
use Rattle.gen1_status.proofs.gate_tests.by_status.gate_of_turn.Goals as goal

pub returns-then-flinch_test-clause-shown : goal.returns-then-flinch_test-clause-shown
unfolding gate_of_turn
returns-then-flinch_test-clause-shown t c g p h = stops _ _ (settled c.if-flinch_test.true (c.flinch_test.ensures.shown g p h))

pub returns-then-recharge_test-clause-shown : goal.returns-then-recharge_test-clause-shown
unfolding gate_of_turn
returns-then-recharge_test-clause-shown t c g p h =
    let a = settled c.if-flinch_test.false (c.flinch_test.ensures.shown g p h) in
    goes _ _ a (stops _ _ (settled c.if-recharge_test.true (c.recharge_test.ensures.shown _ _ a)))

pub returns-clause-shown : goal.returns-clause-shown
unfolding gate_of_turn
returns-clause-shown t c g p h =
    let a = settled c.if-flinch_test.false (c.flinch_test.ensures.shown g p h) in
    let b = settled c.if-recharge_test.false (c.recharge_test.ensures.shown _ _ a) in
    let is = c.disabled.ensures.stands _ _ b.within in
    goes _ _ a (goes _ _ b (seeing _ (disable_count c.args.side) is (c.disable_count.ensures.shown _ _ (sym is) b)))
