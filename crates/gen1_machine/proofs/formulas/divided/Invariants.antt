-- The value has been divided once for each penalty so far.
use Rattle.std.proofs.Common.{◌≡◌}
use Rattle.gen1_machine.specs.Stages.{divided_times}
use Rattle.gen1_machine.proofs.formulas.divided.Given as goal

abbrev pub invariant-penalties : goal.invariant-penalties
invariant-penalties l = l.value ≡ divided_times l.divisor l.counter l.stat
