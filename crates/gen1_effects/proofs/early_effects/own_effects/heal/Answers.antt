use Rattle.gen1_layout.proofs.Words.{if_not, if_so, sym, ◌∙◌}
use Rattle.gen1_machine.specs.EarlyEffects.{cannot_heal, heal}
use Rattle.gen1_effects.proofs.Failing.{ended, fails_then, past_fail}
use Rattle.gen1_effects.proofs.early_effects.own_effects.heal.Goals as goal

pub returns-then-cannot_heal-clause-shown : goal.returns-then-cannot_heal-clause-shown
unfolding heal
returns-then-cannot_heal-clause-shown t c g p h =
    ended _ (fails_then c.args.side (cannot_heal c.args.side) _ (sym (c.cannot_heal.ensures.stands _ _ h.within) ∙ c.if-cannot_heal.true) c.fail.ensures.shown h)

pub returns-then-is_rest-clause-shown : goal.returns-then-is_rest-clause-shown
unfolding heal
returns-then-is_rest-clause-shown t c g p h =
    ended _ (past_fail c.args.side (cannot_heal c.args.side) _ (sym (c.cannot_heal.ensures.stands _ _ h.within) ∙ c.if-cannot_heal.false) h
    (if_so _ _ _ (sym c.is_rest.ensures ∙ c.if-is_rest.true) (c.rest_up.ensures.shown g p h)))

pub returns-clause-shown : goal.returns-clause-shown
unfolding heal
returns-clause-shown t c g p h =
    ended _ (past_fail c.args.side (cannot_heal c.args.side) _ (sym (c.cannot_heal.ensures.stands _ _ h.within) ∙ c.if-cannot_heal.false) h
    (if_not _ _ _ (sym c.is_rest.ensures ∙ c.if-is_rest.false) (c.recover.ensures.shown g p h)))
