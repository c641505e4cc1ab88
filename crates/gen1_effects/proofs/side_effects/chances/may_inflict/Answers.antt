use Rattle.gen1_layout.proofs.Words.{drawn_if_not, drawn_if_so, drawn_stays, still, sym, ◌∙◌}
use Rattle.gen1_machine.specs.Ruling.{ruling_of}
use Rattle.gen1_machine.specs.SideEffects.{may_inflict}
use Rattle.gen1_effects.specs.SideEffects.{afflict}
use Rattle.gen1_effects.proofs.Passing.{comes, passes}
use Rattle.gen1_effects.proofs.side_effects.chances.may_inflict.Goals as goal

pub returns-then-has_status-clause-shown : goal.returns-then-has_status-clause-shown
unfolding may_inflict
returns-then-has_status-clause-shown t c count since g p h =
    let is = rw c.other-foe.ensures at (c.has_status.ensures.stands _ _ h.shows.within) in
    drawn_if_so _ _ _ (sym is ∙ c.if-has_status.true) (still h (c.thaw.ensures.shown _ _ h.shows))

pub returns-then-has_type-clause-shown : goal.returns-then-has_type-clause-shown
unfolding may_inflict
returns-then-has_type-clause-shown t c count since g p h =
    let is = rw c.other-foe.ensures at (c.has_status.ensures.stands _ _ h.shows.within) in
    let own = rw (c.other-foe.ensures, c.kind.ensures) at (c.has_type.ensures.stands _ _ h.shows.within) in
    drawn_if_not _ _ _ (sym is ∙ c.if-has_status.false) (drawn_if_so _ _ _ (sym own ∙ c.if-has_type.true) (drawn_stays h))

pub returns-then-not-is_drawn_below-clause-shown : goal.returns-then-not-is_drawn_below-clause-shown
unfolding may_inflict
returns-then-not-is_drawn_below-clause-shown t c count since g p h =
    let is = rw c.other-foe.ensures at (c.has_status.ensures.stands _ _ h.shows.within) in
    let own = rw (c.other-foe.ensures, c.kind.ensures) at (c.has_type.ensures.stands _ _ h.shows.within) in
    drawn_if_not _ _ _ (sym is ∙ c.if-has_status.false) (drawn_if_not _ _ _ (sym own ∙ c.if-has_type.false)
    (passes c.args.bound _ h (c.is_drawn_below.ensures.drawn since) c.if-not-is_drawn_below.true))

pub returns-clause-shown : goal.returns-clause-shown
unfolding may_inflict
returns-clause-shown t c count since g p h =
    let is = rw c.other-foe.ensures at (c.has_status.ensures.stands _ _ h.shows.within) in
    let own = rw (c.other-foe.ensures, c.kind.ensures) at (c.has_type.ensures.stands _ _ h.shows.within) in
    drawn_if_not _ _ _ (sym is ∙ c.if-has_status.false) (drawn_if_not _ _ _ (sym own ∙ c.if-has_type.false)
    (comes c.args.bound (afflict (ruling_of g.setting.terms) c.args.side c.args.kind) h (c.is_drawn_below.ensures.drawn since) c.if-not-is_drawn_below.false
    (λ d. still d (c.afflict.ensures.shown count _ _ d.shows))))
