use Rattle.gen1_layout.proofs.Words.{ap, if_not, if_so, quietly, refl, stays, sym, ◌∙◌}
use Rattle.gen1_machine.specs.Charging.{charge}
use Rattle.gen1_tables.specs.Effects.{charges}
use Rattle.gen1_multiturn.proofs.moves.charging.charge_by.Goals as goal

pub returns-then-not-charges-clause-shown : goal.returns-then-not-charges-clause-shown
unfolding charge
returns-then-not-charges-clause-shown t c g p fits h = if_not _ _ _ (sym (c.charges.ensures ∙ ap charges c.effect.ensures) ∙ c.if-not-charges.true) (stays h)

pub returns-then-is_on-clause-shown : goal.returns-then-is_on-clause-shown
unfolding charge
returns-then-is_on-clause-shown t c g p fits h =
    if_so _ _ _ (sym (c.charges.ensures ∙ ap charges c.effect.ensures) ∙ c.if-not-charges.false)
    (if_so _ _ _ (sym (c.is_on.ensures.stands 4 refl _ p.field h.within) ∙ c.if-is_on.true) (quietly h (c.end_charge.ensures.shown _ _ _)))

pub returns-clause-shown : goal.returns-clause-shown
unfolding charge
returns-clause-shown t c g p fits h =
    if_so _ _ _ (sym (c.charges.ensures ∙ ap charges c.effect.ensures) ∙ c.if-not-charges.false)
    (if_not _ _ _ (sym (c.is_on.ensures.stands 4 refl _ p.field h.within) ∙ c.if-is_on.false) (c.begin_charge.ensures.shown _ _ fits h))
