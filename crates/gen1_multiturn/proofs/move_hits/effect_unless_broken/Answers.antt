use Rattle.gen1_layout.proofs.Words.{Action, ap, if_not, if_so, stays, ◌∙◌}
use Rattle.gen1_multiturn.proofs.move_hits.effect_unless_broken.Goals as goal

pub returns-then-not-known-clause-shown : goal.returns-then-not-known-clause-shown
returns-then-not-known-clause-shown t c g p h = if_not _ _ _ (ap (λ (a : Action). a.broke) h.action ∙ c.if-not-known.true) (c.hit_effect.ensures.shown _ p h)

pub returns-else-not-known-clause-shown : goal.returns-else-not-known-clause-shown
returns-else-not-known-clause-shown t c g p h = if_so _ _ _ (ap (λ (a : Action). a.broke) h.action ∙ c.if-not-known.false) (stays h)
