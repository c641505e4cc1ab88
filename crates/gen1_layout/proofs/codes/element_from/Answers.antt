use Rattle.std.proofs.Common.{arith}
use Rattle.gen1_layout.proofs.ElementCodes.{at_byte}
use Rattle.gen1_layout.proofs.codes.element_from.Goals as goal

pub returns : goal.returns
returns c = at_byte c.args.byte _ (omega arith)
