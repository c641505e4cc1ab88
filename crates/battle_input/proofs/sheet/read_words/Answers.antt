use Rattle.std.proofs.Common.{rules, arith, length, sym, ◌<◌, ◌≡◌, ◌∙◌}
use Rattle.std.proofs.lemmas.Result.{err_from_is_err_and}
use Rattle.battle_input.specs.Sheets.{word_of}
use Rattle.battle_input.specs.declared.fault.Step.TheVariants.{At}
use Rattle.battle_input.proofs.Reading.{each_of_stop, misfit_in, numbers_from}
use Rattle.battle_input.proofs.sheet.read_words.Goals as goal

pub returns-in_err-words-clause-value : goal.returns-in_err-words-clause-value
returns-in_err-words-clause-value g c =
    let vs = c.in-Some.items.now.items in
    let long : length vs ≡ g.row.N = search rules in
    let within : c.loop-i.i < length vs = omega arith in
    let wrong = misfit_in word_of (At c.loop-i.i) c.read_word.result _ _ c.in_err-words.field-0.0 c.in_err-words.ensures.value c.read_word.ensures.value c.index.ensures in
    let passed = err_from_is_err_and c.from_residual.result c.from_residual.ensures.1 in
    rw (passed.1, passed.2) (sym (each_of_stop word_of _ vs c.loop-i.i c.index.result.now c.in_err-words.field-0.0 within wrong) ∙ c.loop-i.invariant.0 ∙ sym (numbers_from word_of g.row.N vs _ c.in-Some.ensures long))
