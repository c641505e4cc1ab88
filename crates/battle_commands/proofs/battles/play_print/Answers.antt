use Rattle.std.proofs.lemmas.Result.{err_from_is_err_and}
use Rattle.battle_commands.proofs.Serving.{prints_no_log, no_writes, unwritten}
use Rattle.battle_commands.proofs.battles.play_print.Goals as goal

pub returns-in_err-log-clause-answers : goal.returns-in_err-log-clause-answers
returns-in_err-log-clause-answers g c =
    let passed = err_from_is_err_and c.from_residual.result c.from_residual.ensures.1 in
    rw (passed.1, passed.2) (prints_no_log c.in_err-log.field-0.0 _ _ c.in_err-log.ensures.fault)

pub returns-in_err-log-clause-write : goal.returns-in_err-log-clause-write
returns-in_err-log-clause-write g c =
    let passed = err_from_is_err_and c.from_residual.result c.from_residual.ensures.1 in
    rw (passed.1, passed.2) (no_writes _ _ (unwritten c.in_err-log.field-0.0 _ c.in_err-log.ensures.fault))
