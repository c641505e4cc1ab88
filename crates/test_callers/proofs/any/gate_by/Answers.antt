use Rattle.test_callers.proofs.Operations.{begun-shown, healthy-goes, paralysed-draws}
use Rattle.test_callers.proofs.any.gate_by.Goals as goal

pub returns-clause-healthy : goal.returns-clause-healthy
returns-clause-healthy t c g f w free e since n a =
    let d = t.R.Rolls.drawing in
    healthy-goes d since.source n _ c.args.side c.args.used g _ f _ _ _
    (c.gate.ensures.shown since _ _ (begun-shown d since.source n c.args.random.now c.args.side _ w a)) free e

pub returns-clause-paralysed : goal.returns-clause-paralysed
returns-clause-paralysed t c g f w free e since n a =
    let d = t.R.Rolls.drawing in
    paralysed-draws d since.source n _ c.args.side c.args.used g _ f _ _ _
    (c.gate.ensures.shown since _ _ (begun-shown d since.source n c.args.random.now c.args.side _ w a)) free e
