use Rattle.gen1_machine.specs.Progress.{fail}
use Rattle.gen1_machine.specs.StageShift.{raise_stage}
use Rattle.gen1_status.proofs.Shifting.{fails, succeeds}
use Rattle.gen1_effects.proofs.late_effects.raise_own_stat.Goals as goal

pub returns-then-raise_stage-clause-shown : goal.returns-then-raise_stage-clause-shown
returns-then-raise_stage-clause-shown t c by g p h =
    succeeds (raise_stage c.args.side c.args.side c.args.stat c.args.by) c.if-raise_stage.true (c.raise_stage.ensures.shown by (fail c.args.side) g p h)

pub returns-clause-shown : goal.returns-clause-shown
returns-clause-shown t c by g p h =
    fails (raise_stage c.args.side c.args.side c.args.stat c.args.by) c.if-raise_stage.false (c.raise_stage.ensures.shown by (fail c.args.side) g p h)
    (λ q a. c.fail.ensures.shown g q a)
