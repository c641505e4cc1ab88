use Rattle.gen1_layout.proofs.Words.{Action, ap, drawn_if_not, drawn_if_so, drawn_stays, ◌∙◌}
use Rattle.gen1_turn.proofs.action.steps.late_part.Goals as goal

pub returns-then-known-clause-shown : goal.returns-then-known-clause-shown
returns-then-known-clause-shown t c since g p plan doing v h =
    drawn_if_so _ _ _ (ap (λ (a : Action). a.letting_go) h.shows.action ∙ c.if-known.true) (drawn_stays h)

pub returns-clause-shown : goal.returns-clause-shown
returns-clause-shown t c since g p plan doing v h =
    drawn_if_not _ _ _ (ap (λ (a : Action). a.letting_go) h.shows.action ∙ c.if-known.false) (c.late_effect.ensures.shown since g p plan doing v h)
