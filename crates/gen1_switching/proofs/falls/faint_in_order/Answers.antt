use Rattle.gen1_layout.proofs.Words.{goes}
use Rattle.gen1_machine.specs.Falls.{faint_in_order}
use Rattle.gen1_switching.proofs.falls.faint_in_order.Goals as goal

pub returns-clause-shown : goal.returns-clause-shown
unfolding faint_in_order
returns-clause-shown t c g p h =
    let a = rw c.other.ensures at (c.faint_if_fallen.ensures.shown g p h) in
    goes _ _ a (c.faint_if_fallen-2.ensures.shown g _ a)
