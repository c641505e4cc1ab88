use Rattle.gen1_layout.proofs.Words.{Action, Option, acted, active_ok, ap, arith, changed_conditions, conditions_in, ends, goes, if_not, if_so, refl, sym, told_so, true, who_in, ℕ, ◌∙◌}
use Rattle.gen1_machine.specs.declared.event.Event.TheVariants as events
use Rattle.gen1_machine.specs.declared.event.Volatile.TheVariants as volatiles
use Rattle.gen1_machine.specs.Conditions.{less_by, with_substitute_hurt, without_substitute}
use Rattle.gen1_machine.specs.Progress.{lasts}
use Rattle.gen1_machine.specs.Landing.{land_on_substitute, set_broke}
use Rattle.gen1_hits.proofs.landing.land_on_substitute.Goals as goal

pub returns-then-breaks-clause-shown : goal.returns-then-breaks-clause-shown
unfolding land_on_substitute set_broke ends without_substitute
returns-then-breaks-clause-shown t c g p is h =
    let s = c.args.target in
    let a = acted (λ (x : Action). record x { broke = true }) h in
    let w = c.put_substitute.ensures.stands _ _ without_substitute a.within refl tt in
    let who = c.who.ensures.stands _ _ w in
    if_so _ _ _ (sym c.breaks.ensures ∙ c.if-breaks.true)
    (goes _ _ a (told_so a (changed_conditions s without_substitute) (λ f. events.End (who_in s f) volatiles.Substitute) w c.push.ensures.told cc))

pub returns-clause-shown : goal.returns-clause-shown
unfolding land_on_substitute lasts with_substitute_hurt
returns-clause-shown t c g p is h =
    let s = c.args.target in
    let conditions = conditions_in s p.field in
    let change = with_substitute_hurt c.args.damage in
    let count = rw is at (active_ok s h.within).conditions.substitute in
    let w = c.put_substitute-2.ensures.stands _ _ change h.within
    (ap (λ (o : Option ℕ). record conditions { substitute = less_by c.args.damage o }) is) (omega arith, omega arith) in
    let who = c.who-2.ensures.stands _ _ w in
    if_not _ _ _ (sym c.breaks.ensures ∙ c.if-breaks.false)
    (told_so h (changed_conditions s change) (λ f. events.Activate (who_in s f) volatiles.Substitute) w c.push-2.ensures.told cc)
