use Rattle.std.proofs.lemmas.Result.{err_from_is_err_and}
use Rattle.battle_commands.proofs.Serving.{prints_no_damages, no_writes, unwritten}
use Rattle.battle_commands.proofs.calc.play_calc.Goals as goal

pub returns-in_err-input-clause-answers : goal.returns-in_err-input-clause-answers
returns-in_err-input-clause-answers g c =
    let passed = err_from_is_err_and c.from_residual.result c.from_residual.ensures.1 in
    rw (passed.1, passed.2) (prints_no_damages c.in_err-input.field-0.0 _ _ c.in_err-input.ensures.fault)

pub returns-in_err-input-clause-write : goal.returns-in_err-input-clause-write
returns-in_err-input-clause-write g c =
    let passed = err_from_is_err_and c.from_residual.result c.from_residual.ensures.1 in
    rw (passed.1, passed.2) (no_writes _ _ (unwritten c.in_err-input.field-0.0 _ c.in_err-input.ensures.fault))
