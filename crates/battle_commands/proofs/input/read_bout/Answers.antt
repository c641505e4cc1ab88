use Rattle.std.proofs.Common.{◌∙◌}
use Rattle.std.proofs.lemmas.Result.{err_from_is_err_and}
use Rattle.battle_commands.specs.Asked.{asked_of}
use Rattle.battle_commands.proofs.Serving.{no_writes, opens_no_input, opens_read, or_false, unwritten}
use Rattle.battle_commands.proofs.input.read_bout.Goals as goal

pub returns-in_err-input-clause-opens : goal.returns-in_err-input-clause-opens
returns-in_err-input-clause-opens g c =
    let passed = err_from_is_err_and c.from_residual.result c.from_residual.ensures.1 in
    rw (passed.1, passed.2) (opens_no_input c.args.key g.T.Item.meaning c.in_err-input.field-0.0 _ c.in_err-input.ensures.fault)

pub returns-in_err-input-clause-write : goal.returns-in_err-input-clause-write
returns-in_err-input-clause-write g c =
    let passed = err_from_is_err_and c.from_residual.result c.from_residual.ensures.1 in
    rw (passed.1, passed.2) (unwritten c.in_err-input.field-0.0 _ c.in_err-input.ensures.fault)

pub returns-clause-opens : goal.returns-clause-opens
returns-clause-opens g c =
    opens_read (asked_of c.args.key g.T.Item.meaning) c.open_bout.result _ c.in_ok-input.input.items _ c.as_slice.ensures.value c.open_bout.ensures.opens c.in_ok-input.ensures.whole

pub returns-clause-read : goal.returns-clause-read
returns-clause-read g c = c.in_ok-input.ensures.read ∙ or_false _ ∙ no_writes _ _ c.open_bout.ensures.read
