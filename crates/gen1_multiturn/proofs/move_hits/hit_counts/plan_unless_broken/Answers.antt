use Rattle.gen1_layout.proofs.Words.{Action, ap, drawn_if_not, drawn_if_so, drawn_stays, ◌∙◌}
use Rattle.gen1_multiturn.proofs.move_hits.hit_counts.plan_unless_broken.Goals as goal

pub returns-then-known-clause-shown : goal.returns-then-known-clause-shown
returns-then-known-clause-shown t c parts events since g p h = drawn_if_so _ _ _ (ap (λ (a : Action). a.broke) h.shows.action ∙ c.if-known.true) (drawn_stays h)

pub returns-clause-shown : goal.returns-clause-shown
returns-clause-shown t c parts events since g p h =
    drawn_if_not _ _ _ (ap (λ (a : Action). a.broke) h.shows.action ∙ c.if-known.false) (c.plan_more.ensures.shown parts events since g p h)
