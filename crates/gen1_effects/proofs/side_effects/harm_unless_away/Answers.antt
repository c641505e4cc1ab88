use Rattle.gen1_layout.proofs.Words.{drawn_if_not, drawn_if_so, drawn_stays, refl, sym, ◌∙◌}
use Rattle.gen1_effects.proofs.side_effects.harm_unless_away.Goals as goal

pub returns-then-is_on-clause-shown : goal.returns-then-is_on-clause-shown
returns-then-is_on-clause-shown t c since g p h =
    let is = rw c.other.ensures at (c.is_on.ensures.stands 9 refl _ _ h.shows.within) in
    drawn_if_so _ _ _ (sym is ∙ c.if-is_on.true) (drawn_stays h)

pub returns-clause-shown : goal.returns-clause-shown
returns-clause-shown t c since g p h =
    let is = rw c.other.ensures at (c.is_on.ensures.stands 9 refl _ _ h.shows.within) in
    drawn_if_not _ _ _ (sym is ∙ c.if-is_on.false) (c.do_harm.ensures.shown since g p h)
