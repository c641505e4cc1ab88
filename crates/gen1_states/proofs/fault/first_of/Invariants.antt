-- The tests that are left decide as all of them do.
use Rattle.std.proofs.Common.{drop, ◌≡◌}
use Rattle.gen1_states.specs.Plain.{first_of}
use Rattle.gen1_states.proofs.fault.first_of.Given as goal

abbrev pub invariant-loop-test : goal.invariant-loop-test
invariant-loop-test l = first_of (drop l.test-index l.tests) ≡ first_of l.tests
