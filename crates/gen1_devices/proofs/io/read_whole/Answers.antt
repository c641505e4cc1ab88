use Rattle.std.proofs.Common.{◌++◌, take, arith}
use Rattle.std.proofs.KnownBytes.{Consumes-trans}
use Rattle.std.proofs.lemmas.Grind.{common_steps}
use Rattle.gen1_devices.proofs.io.read_whole.Goals as goal

pub returns-then-room-count-clause-taken : goal.returns-then-room-count-clause-taken
returns-then-room-count-clause-taken g c = record {
  bytes = c.parts.bytes.items ++ take c.in-Ok.count c.read.new.bytes;
  few = grind (arith, common_steps);
  gone = Consumes-trans _ _ _ _ _ c.parts.invariant.0 c.in-Ok.ensures.bytes.0;
}

pub returns-then-is_err-clause-taken : goal.returns-then-is_err-clause-taken
returns-then-is_err-clause-taken g c = record {
  bytes = c.parts.bytes.items ++ take c.in-Ok.count c.read.new.bytes;
  few = grind (arith, common_steps);
  gone = Consumes-trans _ _ _ _ _ c.parts.invariant.0 c.in-Ok.ensures.bytes.0;
}

pub returns-then-is_err-clause-memory : goal.returns-then-is_err-clause-memory
returns-then-is_err-clause-memory g c is = record {
  bytes = c.parts.bytes.items ++ take c.in-Ok.count c.read.new.bytes;
  some = grind (arith, common_steps);
  few = grind (arith, common_steps);
  gone = Consumes-trans _ _ _ _ _ c.parts.invariant.0 c.in-Ok.ensures.bytes.0;
}
