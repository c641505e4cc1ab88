use Rattle.std.proofs.Common.{All, drop, length, take, ◌+◌, ◌≡◌}
use Rattle.gen1_stats.specs.Members.{IsFresh}
use Rattle.gen1_stats.specs.Teams.{first_refusal, team_of}
use Rattle.gen1_stats.proofs.team.Team.new.Given as goal

-- The members so far are those specified so far, and none of them is refused.
abbrev pub invariant-loop-spec : goal.invariant-loop-spec
invariant-loop-spec l = record {
  counted : length l.members.items ≡ l.spec-index;
  made : l.members.items ≡ team_of (take l.spec-index l.specs);
  passed : first_refusal (l.spec-index + 1) (drop l.spec-index l.specs) ≡ first_refusal 1 l.specs;
  fresh : All IsFresh l.members.items;
}
