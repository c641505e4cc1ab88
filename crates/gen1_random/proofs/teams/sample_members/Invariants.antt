use Rattle.std.proofs.Common.{length, map, ℕ, ◌*◌, ◌+◌, ◌-◌, ◌≡◌}
use Rattle.gen1_random.specs.Teams.{numbers_to, sample, sheet_of}
use Rattle.gen1_random.proofs.teams.sample_members.Given as goal

-- The members so far are those of the team.
abbrev pub invariant-loop-place : goal.invariant-loop-place
invariant-loop-place l = record {
  made : l.members.items ≡ map (λ (place : ℕ). sheet_of (sample (6 * (l.number - 1) + place))) (numbers_to l.place);
  size : length l.members.items ≡ l.place;
}
