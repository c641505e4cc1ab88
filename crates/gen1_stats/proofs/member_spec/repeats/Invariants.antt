use Rattle.std.proofs.Common.{◌≡◌, length}
use Rattle.gen1_stats.specs.Teams.{repeats}
use Rattle.gen1_stats.proofs.member_spec.repeats.Given as goal

-- The remaining moves repeat exactly if all moves do.
abbrev pub invariant-loop-first : goal.invariant-loop-first
invariant-loop-first l = repeats l.rest ≡ repeats l.moves

abbrev pub decreases-loop-first : goal.decreases-loop-first
decreases-loop-first l = length l.rest
