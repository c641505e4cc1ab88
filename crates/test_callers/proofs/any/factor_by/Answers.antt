use Rattle.test_callers.proofs.Operations.{factor-draws, factor-keeps}
use Rattle.test_callers.proofs.any.factor_by.Goals as goal

pub returns-clause-kept : goal.returns-clause-kept
returns-clause-kept t c few since n a = factor-keeps t.R.Rolls.drawing since.source n _ c.args.damage _ few (c.factor.ensures.varies since n a)

pub returns-clause-drawn : goal.returns-clause-drawn
returns-clause-drawn t c many since n m a at = factor-draws t.R.Rolls.drawing since.source n _ c.args.damage _ m many at (c.factor.ensures.varies since n a)
