use Rattle.std.proofs.Common.{All, length, ◌+◌, ◌≡◌, ◌≤◌}
use Rattle.gen1_random.proofs.Drawing.{IsDraft}
use Rattle.gen1_random.specs.Teams.{IsDrawnFrom}
use Rattle.gen1_random.proofs.teams.random_members.Given as goal

-- So many members are drawn.
abbrev pub invariant-members : goal.invariant-members
invariant-members l = record {
  is : IsDraft l.from l.seed l.counter l.members.items l.species.items l.random.state;
  long : 6 ≤ length l.species.items + l.counter;
  fit : All (IsDrawnFrom l.from) l.species.items;
  size : length l.members.items ≡ l.counter;
}
