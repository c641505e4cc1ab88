use Rattle.gen1_outcomes.proofs.Sets.{below_has}
use Rattle.gen1_outcomes.proofs.byte_set.ByteSet.below.Goals as goal

pub returns : goal.returns
returns c b lt = rw (c.ones.ensures, c.ones-2.ensures, c.ones-3.ensures, c.ones-4.ensures) (below_has c.args.bound b _ _ _ lt c.saturating_sub.ensures c.saturating_sub-2.ensures c.saturating_sub-3.ensures)
