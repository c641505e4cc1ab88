use Rattle.std.proofs.Common.{length, rules, sym, ◌<◌, ◌≤◌, ◌∙◌}
use Rattle.std.proofs.lemmas.Result.{err_from_is_err_and}
use Rattle.serde_json.specs.View.{view}
use Rattle.battle_input.specs.Sheets.{move_of}
use Rattle.battle_input.specs.declared.fault.Step.TheVariants.{At}
use Rattle.battle_input.proofs.Reading.{each_of_stop, misfit_in, moves_from}
use Rattle.battle_input.proofs.sheet.read_moves.Goals as goal

pub returns-in_err-behind-clause-value : goal.returns-in_err-behind-clause-value
returns-in_err-behind-clause-value c =
    let vs = c.deref-item-items.result.now in
    let few : length vs ≤ 4 = search rules in
    let within : c.loop-number.number < length vs = search rules in
    let wrong = misfit_in move_of (At c.loop-number.number) c.read_move.result _ _ c.in_err-behind.field-0.0 c.in_err-behind.ensures.value c.read_move.ensures.value c.item-item.is in
    let passed = err_from_is_err_and c.from_residual.result c.from_residual.ensures.1 in
    rw (passed.1, passed.2) (sym (each_of_stop move_of _ vs c.loop-number.number c.item-item.result c.in_err-behind.field-0.0 within wrong) ∙ c.loop-number.invariant.0
    ∙ sym (moves_from vs (view c.args.value.now) (rw c.deref-item-items.ensures.value c.in-Some.ensures) few))
