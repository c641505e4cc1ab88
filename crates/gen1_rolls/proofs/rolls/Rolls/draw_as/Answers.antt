use Rattle.std.proofs.Common.{ap}
use Rattle.gen1_rolls.specs.Streams.{sees}
use Rattle.gen1_rolls.proofs.rolls.Rolls.draw_as.Goals as goal

pub returns-clause-drawn : goal.returns-clause-drawn
returns-clause-drawn g c since n a = let x = c.draw.ensures.drawn since n a in record { is = ap (sees c.args._look) x.is; stands = x.stands }
