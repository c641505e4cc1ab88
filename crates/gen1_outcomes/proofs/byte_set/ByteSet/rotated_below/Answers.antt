use Rattle.gen1_outcomes.proofs.Sets.{rotated_has}
use Rattle.gen1_outcomes.proofs.byte_set.ByteSet.rotated_below.Goals as goal

pub returns : goal.returns
returns c b lt =
    rotated_has c.args.bound c.eighths.result c.eighths-2.result c.eighths-3.result c.eighths-4.result b lt (c.eighths.ensures.low, c.eighths.ensures.high)
    (c.eighths-2.ensures.low, c.eighths-2.ensures.high) (c.eighths-3.ensures.low, c.eighths-3.ensures.high) (c.eighths-4.ensures.low, c.eighths-4.ensures.high)
