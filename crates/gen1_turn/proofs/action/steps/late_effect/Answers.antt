use Rattle.gen1_layout.proofs.Words.{ap, drawn_if_not, drawn_if_so, drawn_stays, sym, ◌∙◌}
use Rattle.gen1_machine.specs.LateEffects.{is_late}
use Rattle.gen1_machine.specs.Moves.{move_at}
use Rattle.gen1_multiturn.proofs.Underways.{alone-biding}
use Rattle.gen1_turn.proofs.action.steps.late_effect.Goals as goal

pub returns-then-is_late-clause-shown : goal.returns-then-is_late-clause-shown
returns-then-is_late-clause-shown t c since g p plan doing v h =
    drawn_if_so _ _ _ (sym (c.is_late.ensures ∙ ap is_late c.effect.ensures) ∙ c.if-is_late.true)
    (c.group_two_knowing.ensures.shown since g p (λ tie. alone-biding g.setting.terms plan c.args.side (move_at c.args.id).effect p doing tie v) h)

pub returns-clause-shown : goal.returns-clause-shown
returns-clause-shown t c since g p plan doing v h =
    drawn_if_not _ _ _ (sym (c.is_late.ensures ∙ ap is_late c.effect.ensures) ∙ c.if-is_late.false) (drawn_stays h)
