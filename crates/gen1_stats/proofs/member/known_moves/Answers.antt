use Rattle.std.proofs.Common.{arith, rules}
use Rattle.gen1_stats.specs.declared.member.KnownMove.{KnownMove}
use Rattle.gen1_stats.specs.Members.{IsBetween}
use Rattle.gen1_stats.proofs.Ranges.{All-push}
use Rattle.gen1_stats.proofs.member.known_moves.Goals as goal

pub loop-id-preserved : goal.loop-id-preserved
loop-id-preserved c = record {
  made = search rules;
  listed = All-push (λ (k : KnownMove). IsBetween 1 165 k.id) c.loop-id.moves.items _ _ c.push.ensures.items c.loop-id.invariant.listed
      (omega (arith, c.number.ensures), omega (arith, c.number.ensures));
}
