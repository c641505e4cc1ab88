use Rattle.gen1_layout.proofs.Words.{goes, seeing, settled, stops, sym}
use Rattle.gen1_machine.specs.Gate.{gate_of_status, sleep_test}
use Rattle.gen1_status.proofs.gate_tests.by_status.gate_of_status.Goals as goal

pub returns-then-sleep_test-clause-shown : goal.returns-then-sleep_test-clause-shown
unfolding gate_of_status
returns-then-sleep_test-clause-shown t c g p h =
    let is = c.status.ensures.stands _ _ h.within in
    stops _ _ (seeing _ (sleep_test c.args.side) is (settled c.if-sleep_test.true (c.sleep_test.ensures.shown g p (sym is) h)))

pub returns-then-frozen_test-clause-shown : goal.returns-then-frozen_test-clause-shown
unfolding gate_of_status
returns-then-frozen_test-clause-shown t c g p h =
    let is = c.status.ensures.stands _ _ h.within in
    let a = seeing _ (sleep_test c.args.side) is (settled c.if-sleep_test.false (c.sleep_test.ensures.shown g p (sym is) h)) in
    goes _ _ a (stops _ _ (settled c.if-frozen_test.true (c.frozen_test.ensures.shown _ _ a)))

pub returns-clause-shown : goal.returns-clause-shown
unfolding gate_of_status
returns-clause-shown t c g p h =
    let is = c.status.ensures.stands _ _ h.within in
    let a = seeing _ (sleep_test c.args.side) is (settled c.if-sleep_test.false (c.sleep_test.ensures.shown g p (sym is) h)) in
    let b = settled c.if-frozen_test.false (c.frozen_test.ensures.shown _ _ a) in
    goes _ _ a (goes _ _ b (c.trapped_test.ensures.shown _ _ b))
