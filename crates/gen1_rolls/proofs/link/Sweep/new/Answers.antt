use Rattle.std.proofs.Common.{arith}
use Rattle.gen1_rolls.proofs.Standing.{sweep_stands}
use Rattle.gen1_rolls.proofs.link.Sweep.new.Goals as goal

pub returns-clause-stands : goal.returns-clause-stands
returns-clause-stands c = sweep_stands c.args.number (omega arith)
