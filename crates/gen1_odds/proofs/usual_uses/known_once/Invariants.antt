-- The ways of the numbers so far.
use Rattle.std.proofs.Common.{length, ◌≡◌}
use Rattle.gen1_odds.specs.KnockOut.{IsKnown, after_usual, over}
use Rattle.gen1_odds.proofs.usual_uses.known_once.Given as goal

abbrev pub invariant-loop-need : goal.invariant-loop-need
invariant-loop-need l = (length l.known ≡ 1000) × IsKnown (after_usual l.count l.odds over) 20447232 l.known l.need
