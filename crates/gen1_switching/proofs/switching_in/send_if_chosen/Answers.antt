use Rattle.gen1_layout.proofs.Words.{stays}
use Rattle.gen1_machine.specs.SwitchingIn.{send_if_chosen}
use Rattle.gen1_switching.proofs.switching_in.send_if_chosen.Goals as goal

pub returns-in-Switch-clause-shown : goal.returns-in-Switch-clause-shown
unfolding send_if_chosen
returns-in-Switch-clause-shown t c g p there h = rw c.in-Switch.is (c.send_out.ensures.shown g p (rw c.in-Switch.is at there) h)

pub returns-in-Move-clause-shown : goal.returns-in-Move-clause-shown
unfolding send_if_chosen
returns-in-Move-clause-shown t c g p there h = rw c.in-Move.is (stays h)

pub returns-in-Pass-clause-shown : goal.returns-in-Pass-clause-shown
unfolding send_if_chosen
returns-in-Pass-clause-shown t c g p there h = rw c.in-Pass.is (stays h)
