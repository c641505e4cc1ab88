use Rattle.gen1_layout.proofs.Words.{drawn_if_not, drawn_if_so, drawn_stays, refl, sym, ◌∙◌}
use Rattle.gen1_machine.specs.EarlyEffects.{confuse}
use Rattle.gen1_machine.specs.Progress.{is_confused, unless}
use Rattle.gen1_machine.specs.Sides.{other}
use Rattle.gen1_machine.specs.SideEffects.{may_confuse}
use Rattle.gen1_rolls.specs.Draws.{by_then}
use Rattle.gen1_effects.proofs.Passing.{comes, passes}
use Rattle.gen1_effects.proofs.side_effects.chances.may_confuse.Goals as goal

pub returns-then-not-is_drawn_below-clause-shown : goal.returns-then-not-is_drawn_below-clause-shown
unfolding may_confuse
returns-then-not-is_drawn_below-clause-shown t c since g p h =
    passes c.args.bound _ h (c.is_drawn_below.ensures.drawn since) c.if-not-is_drawn_below.true

pub returns-then-is_on-clause-shown : goal.returns-then-is_on-clause-shown
unfolding may_confuse
returns-then-is_on-clause-shown t c since g p h =
    let foe = other c.args.side in
    comes c.args.bound (unless (is_confused foe) (confuse foe)) h (c.is_drawn_below.ensures.drawn since) c.if-not-is_drawn_below.false
    (λ d. let is = rw c.other-foe.ensures at (c.is_on.ensures.stands 6 refl _ _ d.shows.within) in
    drawn_if_so _ _ _ (sym is ∙ c.if-is_on.true) (drawn_stays d))

pub returns-clause-shown : goal.returns-clause-shown
unfolding may_confuse
returns-clause-shown t c since g p h =
    let foe = other c.args.side in
    comes c.args.bound (unless (is_confused foe) (confuse foe)) h (c.is_drawn_below.ensures.drawn (by_then c.confuse.ensures.steps since)) c.if-not-is_drawn_below.false
    (λ d. let is = rw c.other-foe.ensures at (c.is_on.ensures.stands 6 refl _ _ d.shows.within) in
    drawn_if_not _ _ _ (sym is ∙ c.if-is_on.false) ((rw c.other-foe.ensures at c.confuse.ensures.shown) since _ _ d))
