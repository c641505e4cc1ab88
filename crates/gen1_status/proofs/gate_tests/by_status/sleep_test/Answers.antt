use Rattle.gen1_layout.proofs.Words.{stays, ◌∙◌}
use Rattle.gen1_machine.specs.Gate.{sleep_test}
use Rattle.gen1_status.proofs.gate_tests.by_status.sleep_test.Goals as goal

pub returns-in-Asleep-clause-shown : goal.returns-in-Asleep-clause-shown
returns-in-Asleep-clause-shown t c g p is h = rw c.in-Asleep.is (c.sleep_turn.ensures.shown g p (is ∙ c.in-Asleep.is) h)

pub returns-in-Healthy-clause-shown : goal.returns-in-Healthy-clause-shown
unfolding sleep_test
returns-in-Healthy-clause-shown t c g p is h = rw c.in-Healthy.is (stays h)

pub returns-in-Poisoned-clause-shown : goal.returns-in-Poisoned-clause-shown
unfolding sleep_test
returns-in-Poisoned-clause-shown t c g p is h = rw c.in-Poisoned.is (stays h)

pub returns-in-Burned-clause-shown : goal.returns-in-Burned-clause-shown
unfolding sleep_test
returns-in-Burned-clause-shown t c g p is h = rw c.in-Burned.is (stays h)

pub returns-in-Frozen-clause-shown : goal.returns-in-Frozen-clause-shown
unfolding sleep_test
returns-in-Frozen-clause-shown t c g p is h = rw c.in-Frozen.is (stays h)

pub returns-in-Paralysed-clause-shown : goal.returns-in-Paralysed-clause-shown
unfolding sleep_test
returns-in-Paralysed-clause-shown t c g p is h = rw c.in-Paralysed.is (stays h)
