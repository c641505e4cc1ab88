use Rattle.std.proofs.Common.{ap, sym, ◌∙◌}
use Rattle.std.proofs.lemmas.Result.{err_from_is_err_and}
use Rattle.std.specs.Prelude.{ok_or}
use Rattle.battle_commands.specs.declared.fault.ToolFault.TheVariants.{Calc}
use Rattle.battle_commands.proofs.Serving.{due_found, finds_no_sheet}
use Rattle.battle_commands.proofs.calc.find_numbers.Goals as goal

pub returns-in_err-sheet : goal.returns-in_err-sheet
returns-in_err-sheet c =
    let passed = err_from_is_err_and c.from_residual.result c.from_residual.ensures.1 in
    rw (passed.1, passed.2) (finds_no_sheet c.in_err-sheet.field-0.0 _ c.requires c.in_err-sheet.ensures)

pub returns-in-Some : goal.returns-in-Some
returns-in-Some c =
    let s = c.in_ok-sheet.sheet in
    due_found _ s c.requires c.in_ok-sheet.ensures c.in-Ok.ensures.allowed c.in-Ok-new.ensures.allowed (sym c.has_usual_damage.ensures ∙ c.if-not-has_usual_damage.false)
    ∙ ap (λ o. ok_or o Calc) (sym (c.in-Some.ensures s.attacker s.defender c.in-Ok.ensures.made c.in-Ok-new.ensures.made))

pub returns-in-None : goal.returns-in-None
returns-in-None c =
    let s = c.in_ok-sheet.sheet in
    due_found _ s c.requires c.in_ok-sheet.ensures c.in-Ok.ensures.allowed c.in-Ok-new.ensures.allowed (sym c.has_usual_damage.ensures ∙ c.if-not-has_usual_damage.false)
    ∙ ap (λ o. ok_or o Calc) (sym (c.in-None.ensures s.attacker s.defender c.in-Ok.ensures.made c.in-Ok-new.ensures.made))
