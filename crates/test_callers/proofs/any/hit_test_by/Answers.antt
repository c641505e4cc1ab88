use Rattle.gen1_machine.specs.Moves.{move_at}
use Rattle.test_callers.proofs.Operations.{begun-shown, hit_test-is}
use Rattle.test_callers.proofs.any.hit_test_by.Goals as goal

pub returns : goal.returns
returns t c g f w unsettled since n a =
    let d = t.R.Rolls.drawing in
    hit_test-is d since.source n _ c.args.side (move_at c.args.id) c.args.base g _ f _ _ unsettled
    (c.hit_test.ensures.shown _ since _ _ (begun-shown d since.source n c.args.random.now c.args.side _ w a))
