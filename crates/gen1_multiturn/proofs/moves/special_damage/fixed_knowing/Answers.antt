use Rattle.gen1_layout.proofs.Words.{Action, ap, drawn_goes, drawn_if_not, drawn_if_so, drawn_stays, goes, halted, lit≤, on_field, put, put_damage, still, ◌∙◌}
use Rattle.gen1_machine.specs.declared.terms.Outcome.TheVariants as outcomes
use Rattle.gen1_machine.specs.FixedDamage.{fixed_damage}
use Rattle.gen1_machine.specs.Progress.{fault}
use Rattle.gen1_machine.specs.State.{with_outcome}
use Rattle.gen1_hits.specs.Knowing.{knowing}
use Rattle.gen1_rolls.specs.Draws.{by_then}
use Rattle.gen1_multiturn.proofs.moves.special_damage.fixed_knowing.Goals as goal

pub returns-then-known-clause-shown : goal.returns-then-known-clause-shown
unfolding fixed_damage
returns-then-known-clause-shown t c events since g p h =
    let a = c.hit_or_miss.ensures.shown events since g p h in
    drawn_goes _ _ a (drawn_if_so _ _ _ (ap (λ (x : Action). x.missed) a.shows.action ∙ c.if-known.true) (drawn_stays a))

pub returns-in-Some-clause-shown : goal.returns-in-Some-clause-shown
unfolding fixed_damage
returns-in-Some-clause-shown t c events since g p h =
    let a = c.hit_or_miss.ensures.shown events (by_then c.fixed.ensures.steps since) g p h in
    let now = knowing c.hit_or_miss.new.known g in
    let d = c.fixed.ensures.deals since now events _ a in
    let b = still {g' = now} d.1 (put_damage d.1.shows c.in-Some.damage (c.put_last_damage.ensures.stands _ _ a.shows.within)) in
    drawn_goes _ _ a (drawn_if_not _ _ _ (ap (λ (x : Action). x.missed) a.shows.action ∙ c.if-known.false) (rw (d.2, c.in-Some.is) b))

pub returns-in-None-clause-shown : goal.returns-in-None-clause-shown
unfolding fixed_damage fault on_field with_outcome
returns-in-None-clause-shown t c events since g p h =
    let a = c.hit_or_miss.ensures.shown events (by_then c.fixed.ensures.steps since) g p h in
    let now = knowing c.hit_or_miss.new.known g in
    let d = c.fixed.ensures.deals since now events _ a in
    let b = put d.1.shows (with_outcome (outcomes.Fault 2)) (c.put_outcome.ensures.stands _ _ a.shows.within (lit≤ tt, lit≤ tt)) in
    drawn_goes _ _ a (drawn_if_not _ _ _ (ap (λ (x : Action). x.missed) a.shows.action ∙ c.if-known.false)
    (rw (d.2, c.in-None.is) (still {g' = now} d.1 (goes _ _ b (halted b)))))
