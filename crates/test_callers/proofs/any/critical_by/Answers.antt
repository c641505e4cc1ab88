use Rattle.gen1_machine.specs.Moves.{move_at}
use Rattle.test_callers.proofs.Operations.{begun-shown, critical-is}
use Rattle.test_callers.proofs.any.critical_by.Goals as goal

pub returns : goal.returns
returns t c g f w since n a =
    let d = t.R.Rolls.drawing in
    critical-is d since.source n _ c.args.side (move_at c.args.id) g _ f _
    (c.critical.ensures.shown _ since _ _ (begun-shown d since.source n c.args.random.now c.args.side _ w a))
