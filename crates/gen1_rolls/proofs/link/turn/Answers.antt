use Rattle.std.proofs.Common.{arith}
use Rattle.gen1_rolls.proofs.Rings.{turn_step}
use Rattle.gen1_rolls.proofs.link.turn.Goals as goal

pub loop-place-preserved : goal.loop-place-preserved
loop-place-preserved c =
    turn_step c.args.numbers.now c.loop-place.numbers c.loop-place.place c.renew.result (omega arith) c.loop-place.invariant c.renew.ensures
