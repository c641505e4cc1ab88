use Rattle.std.proofs.Common.{arith}
use Rattle.gen1_outcomes.proofs.Sets.{eighths_high, eighths_low}
use Rattle.gen1_outcomes.proofs.byte_set.eighths.Goals as goal

pub returns-clause-low : goal.returns-clause-low
returns-clause-low c i lt =
    rw (c.ones.ensures, c.ones-2.ensures) (eighths_low _ _ c.args.bound c.args.least i (omega arith) lt (omega arith) (omega arith))

pub returns-clause-high : goal.returns-clause-high
returns-clause-high c i lt =
    rw (c.ones.ensures, c.ones-2.ensures) (eighths_high _ _ c.args.bound c.args.least i (omega arith) lt (omega arith) (omega arith))
