use Rattle.std.proofs.Common.{rules, length, sym, ◌≡◌}
use Rattle.std.proofs.lemmas.Result.{err_from_is_err_and}
use Rattle.battle_input.specs.Sheets.{byte_of}
use Rattle.battle_input.specs.declared.fault.Step.TheVariants.{At}
use Rattle.battle_input.proofs.Reading.{both_of_first, misfit_in}
use Rattle.battle_input.proofs.sheet.read_pair.Goals as goal

pub returns-in_err-one-clause-value : goal.returns-in_err-one-clause-value
returns-in_err-one-clause-value c =
    let vs = c.in-Some.items.now.items in
    let long : length vs ≡ 2 = search rules in
    let passed = err_from_is_err_and c.from_residual.result c.from_residual.ensures.1 in
    let wrong = misfit_in byte_of (At 0) c.read_byte.result _ _ c.in_err-one.field-0.0 c.in_err-one.ensures.value c.read_byte.ensures.value c.index.ensures in
    rw (passed.1, passed.2, ← c.in-Some.ensures) (sym (both_of_first byte_of byte_of vs c.index.result.now c.in_err-one.field-0.0 long wrong))
