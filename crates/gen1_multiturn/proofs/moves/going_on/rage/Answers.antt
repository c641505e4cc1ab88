use Rattle.gen1_layout.proofs.Words.{if_not, if_so, stays, sym, ◌∙◌}
use Rattle.gen1_multiturn.proofs.moves.going_on.rage.Goals as goal

pub returns-then-has_fallen-clause-shown : goal.returns-then-has_fallen-clause-shown
returns-then-has_fallen-clause-shown t c g p h = rw (← c.other-foe.ensures) (if_so _ _ _ (sym (c.has_fallen.ensures.stands _ _ h.within) ∙ c.if-has_fallen.true) (stays h))

pub returns-clause-shown : goal.returns-clause-shown
returns-clause-shown t c g p h = rw (← c.other-foe.ensures) (if_not _ _ _ (sym (c.has_fallen.ensures.stands _ _ h.within) ∙ c.if-has_fallen.false) (c.build_rage.ensures.shown g p h))
