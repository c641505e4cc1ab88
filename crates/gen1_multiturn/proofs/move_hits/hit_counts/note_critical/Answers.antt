use Rattle.gen1_layout.proofs.Words.{Action, Who, ap, if_not, if_so, noted, stays, who_in, ◌∙◌}
use Rattle.gen1_machine.specs.declared.event.Event.TheVariants as events
use Rattle.gen1_machine.specs.ManyHits.{note_critical}
use Rattle.gen1_multiturn.proofs.move_hits.hit_counts.note_critical.Goals as goal

pub returns-then-known-clause-shown : goal.returns-then-known-clause-shown
unfolding note_critical
returns-then-known-clause-shown t c g p h =
    if_so _ _ _ (ap (λ (a : Action). a.critical) h.action ∙ c.if-known.true)
    (noted h (λ f. events.Crit (who_in c.args.target f)) c.push.ensures.told (ap (λ (w : Who). events.Crit w) (c.who.ensures.stands _ _ h.within)))

pub returns-else-known-clause-shown : goal.returns-else-known-clause-shown
unfolding note_critical
returns-else-known-clause-shown t c g p h = if_not _ _ _ (ap (λ (a : Action). a.critical) h.action ∙ c.if-known.false) (stays h)
