use Rattle.std.proofs.Common.{refl}
use Rattle.std.proofs.lemmas.Result.{err_from_is_err_and}
use Rattle.battle_input.specs.Sheets.{sheet_view}
use Rattle.battle_commands.specs.Asked.{begins}
use Rattle.battle_commands.proofs.Serving.{asks_for, opens_no_sheet, sheet_unread, sheet_unwritten, stands_begun}
use Rattle.battle_commands.proofs.input.open_bout.Goals as goal

pub returns-in_err-sheet-clause-opens : goal.returns-in_err-sheet-clause-opens
returns-in_err-sheet-clause-opens g c =
    let passed = err_from_is_err_and c.from_residual.result c.from_residual.ensures.1 in
    rw (passed.1, passed.2) (opens_no_sheet c.args.key g.T.Item.meaning c.in_err-sheet.field-0.0 _ c.requires c.in_err-sheet.ensures)

pub returns-in_err-sheet-clause-read : goal.returns-in_err-sheet-clause-read
returns-in_err-sheet-clause-read g c =
    let passed = err_from_is_err_and c.from_residual.result c.from_residual.ensures.1 in
    rw (passed.1, passed.2) (sheet_unread c.in_err-sheet.field-0.0)

pub returns-in_err-sheet-clause-write : goal.returns-in_err-sheet-clause-write
returns-in_err-sheet-clause-write g c =
    let passed = err_from_is_err_and c.from_residual.result c.from_residual.ensures.1 in
    rw (passed.1, passed.2) (sheet_unwritten c.in_err-sheet.field-0.0)

pub returns-clause-opens : goal.returns-clause-opens
returns-clause-opens g c =
    let asked = sheet_view c.in_ok-sheet.sheet in
    let one = c.as_slice.ensures.value in
    let two = c.as_slice-2.ensures.value in (
      record { state = begins asked.0; items = asked.1 },
      asks_for c.args.key g.T.Item.meaning c.args.input.now asked c.requires c.in_ok-sheet.ensures (rw one at c.in-Ok.ensures.allowed) (rw two at c.in-Ok-new.ensures.allowed),
      stands_begun _ _ _ _ _ asked.0.one asked.0.two (rw one at c.in-Ok.ensures.made) (rw two at c.in-Ok-new.ensures.made) c.with_limit-battle.ensures,
      refl,
    )
