use Rattle.gen1_layout.proofs.Words.{ap, drawn_if_not, drawn_if_so, drawn_stays, sym, ◌∙◌}
use Rattle.gen1_machine.specs.EarlyEffects.{is_early}
use Rattle.gen1_turn.proofs.action.lead_up.early_effect.Goals as goal

pub returns-then-is_early-clause-shown : goal.returns-then-is_early-clause-shown
returns-then-is_early-clause-shown t c since g p h =
    drawn_if_so _ _ _ (sym (c.is_early.ensures ∙ ap is_early c.effect.ensures) ∙ c.if-is_early.true) (c.group_one_knowing.ensures.shown since g p h)

pub returns-then-is_early-clause-early : goal.returns-then-is_early-clause-early
returns-then-is_early-clause-early t c = sym (sym (c.is_early.ensures ∙ ap is_early c.effect.ensures) ∙ c.if-is_early.true)

pub returns-clause-shown : goal.returns-clause-shown
returns-clause-shown t c since g p h =
    drawn_if_not _ _ _ (sym (c.is_early.ensures ∙ ap is_early c.effect.ensures) ∙ c.if-is_early.false) (drawn_stays h)

pub returns-clause-early : goal.returns-clause-early
returns-clause-early t c = sym (sym (c.is_early.ensures ∙ ap is_early c.effect.ensures) ∙ c.if-is_early.false)
