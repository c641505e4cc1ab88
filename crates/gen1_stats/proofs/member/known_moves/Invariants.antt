use Rattle.std.proofs.Common.{All, map, take, ◌≡◌}
use Rattle.gen1_stats.specs.declared.member.KnownMove.{KnownMove}
use Rattle.gen1_stats.specs.Members.{IsBetween}
use Rattle.gen1_stats.specs.Teams.{known_of}
use Rattle.gen1_stats.proofs.member.known_moves.Given as goal

-- The moves so far are those chosen so far.
abbrev pub invariant-loop-id : goal.invariant-loop-id
invariant-loop-id l = record {
  made : l.moves.items ≡ map known_of (take l.id-index l.chosen);
  listed : All (λ (k : KnownMove). IsBetween 1 165 k.id) l.moves.items;
}
