use Rattle.std.proofs.Common.{rules, arith}
use Rattle.gen1_devices.proofs.OutputLemmas.{sends_stopped}
use Rattle.gen1_devices.proofs.io.send_all.Goals as goal

pub returns-in-Err : goal.returns-in-Err
returns-in-Err g c = record {
  whole = search rules;
  front = sends_stopped _ _ _ c.args.pieces.now c.loop-piece.piece-index _ (omega arith) c.loop-piece.invariant.0 c.in-Err.ensures.front;
  fault = search rules;
}
