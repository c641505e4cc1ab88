use Rattle.std.proofs.Common.{arith}
use Rattle.test_callers.proofs.Operations.{countdown_is_stream}
use Rattle.test_callers.proofs.countdown.step.Goals as goal

pub returns-clause-stream : goal.returns-clause-stream
returns-clause-stream c = countdown_is_stream c.args.number (omega arith)
