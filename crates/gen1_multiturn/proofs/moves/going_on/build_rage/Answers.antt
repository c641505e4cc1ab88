use Rattle.gen1_layout.proofs.Words.{if_not, if_so, lit≤, refl, stay, stays, sym, ◌∙◌}
use Rattle.gen1_tables.specs.declared.effect.Stat.TheVariants.{Attack}
use Rattle.gen1_machine.specs.ManyHits.{build_rage}
use Rattle.gen1_machine.specs.StageShift.{raise_stage}
use Rattle.gen1_status.proofs.Shifting.{shifted}
use Rattle.gen1_multiturn.proofs.moves.going_on.build_rage.Goals as goal

pub returns-then-not-is_on-clause-shown : goal.returns-then-not-is_on-clause-shown
unfolding build_rage
returns-then-not-is_on-clause-shown t c g p h = if_not _ _ _ (sym (c.is_on.ensures.stands 11 refl _ _ h.within) ∙ c.if-not-is_on.true) (stays h)

pub returns-clause-shown : goal.returns-clause-shown
unfolding build_rage
returns-clause-shown t c g p h =
    if_so _ _ _ (sym (c.is_on.ensures.stands 11 refl _ _ h.within) ∙ c.if-not-is_on.false)
    (shifted g _ _ c.raise_stage-raised.result (raise_stage c.args.side c.args.side Attack 1) p (c.raise_stage-raised.ensures.shown (lit≤ tt, lit≤ tt) stay g p h))
