use Rattle.gen1_machine.specs.ResidualDamage.{suffer_status}
use Rattle.gen1_layout.proofs.Chain.{stays}
use Rattle.gen1_status.proofs.residual_damage.suffer_status.Goals as goal

pub returns-in-Poisoned-clause-shown : goal.returns-in-Poisoned-clause-shown
unfolding suffer_status
returns-in-Poisoned-clause-shown t c g p h = rw c.in-Poisoned.is (c.suffer.ensures.shown g p h)

pub returns-in-Burned-clause-shown : goal.returns-in-Burned-clause-shown
unfolding suffer_status
returns-in-Burned-clause-shown t c g p h = rw c.in-Burned.is (c.suffer-in-Burned.ensures.shown g p h)

pub returns-in-Healthy-clause-shown : goal.returns-in-Healthy-clause-shown
unfolding suffer_status
returns-in-Healthy-clause-shown t c g p h = rw c.in-Healthy.is (stays h)

pub returns-in-Asleep-clause-shown : goal.returns-in-Asleep-clause-shown
unfolding suffer_status
returns-in-Asleep-clause-shown t c g p h = rw c.in-Asleep.is (stays h)

pub returns-in-Frozen-clause-shown : goal.returns-in-Frozen-clause-shown
unfolding suffer_status
returns-in-Frozen-clause-shown t c g p h = rw c.in-Frozen.is (stays h)

pub returns-in-Paralysed-clause-shown : goal.returns-in-Paralysed-clause-shown
unfolding suffer_status
returns-in-Paralysed-clause-shown t c g p h = rw c.in-Paralysed.is (stays h)
