use Rattle.std.proofs.Common.{filter, length, ◌≡◌, ◌≤◌}
use Rattle.gen1_random.specs.Teams.{has, numbers_to}
use Rattle.gen1_random.proofs.teams.Pool.numbers.Given as goal

-- The numbers so far are those up to here that the pool has.
abbrev pub invariant-loop-before : goal.invariant-loop-before
invariant-loop-before l = record {
  items : l.numbers.items ≡ filter (has l.self) (numbers_to l.before);
  few : length l.numbers.items ≤ l.before;
}
