use Rattle.std.proofs.lemmas.Result.{err_from_is_err_and}
use Rattle.gen1_machine.specs.LogBytes.{codes_of}
use Rattle.battle_commands.specs.Asked.{asked_to_run, due_from}
use Rattle.battle_commands.proofs.Serving.{answers_opened, answers_unopened, no_writes}
use Rattle.battle_commands.proofs.battles.play_log.Goals as goal

pub returns-in_err-bout-clause-answers : goal.returns-in_err-bout-clause-answers
returns-in_err-bout-clause-answers g c =
    let passed = err_from_is_err_and c.from_residual.result c.from_residual.ensures.1 in
    rw (passed.1, passed.2) (answers_unopened (due_from codes_of 0) asked_to_run c.in_err-bout.field-0.0 _ _ c.in_err-bout.ensures.opens)

pub returns-in_err-bout-clause-write : goal.returns-in_err-bout-clause-write
returns-in_err-bout-clause-write g c =
    let passed = err_from_is_err_and c.from_residual.result c.from_residual.ensures.1 in
    rw (passed.1, passed.2) (no_writes _ _ c.in_err-bout.ensures.write)

pub returns-clause-answers : goal.returns-clause-answers
returns-clause-answers g c =
    answers_opened (due_from codes_of 0) asked_to_run c.in_ok-bout.bout _ _ _ _ c.in_ok-bout.ensures.opens
    (λ x stands items. rw (c.as_slice.ensures.value, items) at (c.log_pairs.ensures.answers x.state stands))
