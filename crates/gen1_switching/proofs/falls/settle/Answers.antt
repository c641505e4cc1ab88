use Rattle.gen1_layout.proofs.Words.{false, passing, stops, true}
use Rattle.gen1_machine.specs.Falls.{settle}
use Rattle.gen1_switching.proofs.falls.settle.Goals as goal

pub returns-then-end_if_decided-clause-shown : goal.returns-then-end_if_decided-clause-shown
unfolding settle
returns-then-end_if_decided-clause-shown t c g p h =
    let d = rw c.if-end_if_decided.true at (c.end_if_decided.ensures.shown g p h) in
    (true, stops _ _ d)

pub returns-clause-shown : goal.returns-clause-shown
unfolding settle
returns-clause-shown t c g p h =
    let d = rw c.if-end_if_decided.false at (c.end_if_decided.ensures.shown g p h) in
    (false, passing _ _ d.0 d.1 (c.ask_next.ensures.shown g p d.2 d.1))
