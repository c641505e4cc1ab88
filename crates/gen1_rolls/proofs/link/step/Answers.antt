use Rattle.std.proofs.Common.{arith}
use Rattle.gen1_rolls.proofs.Standing.{sweep_is_stream}
use Rattle.gen1_rolls.proofs.link.step.Goals as goal

pub returns-clause-stream : goal.returns-clause-stream
returns-clause-stream c = sweep_is_stream c.args.number (omega arith)
