use Rattle.std.proofs.Common.{Ok, length, rules, sym, ◌≡◌}
use Rattle.std.proofs.lemmas.Result.{err_from_is_err_and}
use Rattle.battle_input.specs.Sheets.{byte_of, long_of, side_of}
use Rattle.battle_input.specs.declared.fault.Step.TheVariants.{At}
use Rattle.battle_input.proofs.Reading.{found_in, misfit_in, three_of_first, three_of_second}
use Rattle.battle_input.proofs.sheet.read_submission.Goals as goal

pub returns-in_err-side-clause-value : goal.returns-in_err-side-clause-value
returns-in_err-side-clause-value c =
    let vs = c.in-Some.items.now.items in
    let long : length vs ≡ 3 = search rules in
    let passed = err_from_is_err_and c.from_residual.result c.from_residual.ensures.1 in
    let wrong = misfit_in side_of (At 0) c.read_side.result _ _ c.in_err-side.field-0.0 c.in_err-side.ensures.value c.read_side.ensures.value c.index.ensures in
    rw (passed.1, passed.2, ← c.in-Some.ensures) (sym (three_of_first side_of long_of byte_of vs c.index.result.now c.in_err-side.field-0.0 long wrong))

pub returns-in_err-number-clause-value : goal.returns-in_err-number-clause-value
returns-in_err-number-clause-value c =
    let vs = c.in-Some.items.now.items in
    let long : length vs ≡ 3 = search rules in
    let passed = err_from_is_err_and c.from_residual-in_err-number.result c.from_residual-in_err-number.ensures.1 in
    let side = found_in side_of (At 0) c.read_side.result _ _ (Ok c.in_ok-side.side) c.in_ok-side.ensures.value c.read_side.ensures.value c.index.ensures in
    let wrong = misfit_in long_of (At 1) c.read_long.result _ _ c.in_err-number.field-0.0 c.in_err-number.ensures.value c.read_long.ensures.value c.index-2.ensures in
    rw (passed.1, passed.2, ← c.in-Some.ensures) (sym (three_of_second side_of long_of byte_of vs c.index.result.now c.index-2.result.now c.in_ok-side.side c.in_err-number.field-0.0 long side wrong))
