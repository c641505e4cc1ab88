use Rattle.gen1_layout.proofs.Words.{drawn_if_not, drawn_if_so, drawn_stays, still, sym, ◌∙◌}
use Rattle.gen1_stats.specs.declared.member.Status.TheVariants.{Poisoned}
use Rattle.gen1_machine.specs.declared.event.Kind.TheVariants as kinds
use Rattle.gen1_machine.specs.Progress.{inflict}
use Rattle.gen1_machine.specs.Sides.{other}
use Rattle.gen1_machine.specs.SideEffects.{may_poison}
use Rattle.gen1_effects.proofs.Passing.{comes, passes}
use Rattle.gen1_effects.proofs.side_effects.chances.may_poison.Goals as goal

pub returns-then-resists_poison-clause-shown : goal.returns-then-resists_poison-clause-shown
unfolding may_poison
returns-then-resists_poison-clause-shown t c since g p h =
    let is = rw c.other-foe.ensures at (c.resists_poison.ensures.stands _ _ h.shows.within) in
    drawn_if_so _ _ _ (sym is ∙ c.if-resists_poison.true) (drawn_stays h)

pub returns-then-not-is_drawn_below-clause-shown : goal.returns-then-not-is_drawn_below-clause-shown
unfolding may_poison
returns-then-not-is_drawn_below-clause-shown t c since g p h =
    let is = rw c.other-foe.ensures at (c.resists_poison.ensures.stands _ _ h.shows.within) in
    drawn_if_not _ _ _ (sym is ∙ c.if-resists_poison.false)
    (passes c.args.bound _ h (c.is_drawn_below.ensures.drawn since) c.if-not-is_drawn_below.true)

pub returns-clause-shown : goal.returns-clause-shown
unfolding may_poison
returns-clause-shown t c since g p h =
    let is = rw c.other-foe.ensures at (c.resists_poison.ensures.stands _ _ h.shows.within) in
    drawn_if_not _ _ _ (sym is ∙ c.if-resists_poison.false)
    (comes c.args.bound (inflict (other c.args.side) Poisoned kinds.Poison) h (c.is_drawn_below.ensures.drawn since) c.if-not-is_drawn_below.false
    (λ d. still d ((rw c.other-foe.ensures at c.inflict.ensures.shown) tt _ _ d.shows)))
