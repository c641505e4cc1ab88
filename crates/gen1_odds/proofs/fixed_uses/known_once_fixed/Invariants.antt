-- The ways of the numbers so far.
use Rattle.std.proofs.Common.{length, ◌≡◌}
use Rattle.gen1_odds.specs.KnockOut.{IsKnown, after_fixed, over}
use Rattle.gen1_odds.proofs.fixed_uses.known_once_fixed.Given as goal

abbrev pub invariant-loop-need : goal.invariant-loop-need
invariant-loop-need l = (length l.known ≡ 1000) × IsKnown (after_fixed l.halves l.odds over) 16777216 l.known l.need
