-- None of the members so far has an error.
use Rattle.std.proofs.Common.{drop, ◌+◌, ◌≡◌}
use Rattle.gen1_c.specs.Teams.{first_fault}
use Rattle.gen1_c.proofs.teams.first_fault.Given as goal

abbrev pub invariant-loop-before : goal.invariant-loop-before
invariant-loop-before l = first_fault (l.before + 1) (drop l.before l.members) ≡ first_fault 1 l.members
