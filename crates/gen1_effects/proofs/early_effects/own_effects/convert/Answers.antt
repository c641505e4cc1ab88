use Rattle.gen1_layout.proofs.Words.{Field, Who, active_in, ap, changed_active, refl, seeing, sym, told_so, who_in, ◌∙◌}
use Rattle.gen1_machine.specs.declared.event.Event.TheVariants as events
use Rattle.gen1_machine.specs.declared.event.Volatile.TheVariants as volatiles
use Rattle.gen1_machine.specs.EarlyEffects.{convert, take_types}
use Rattle.gen1_machine.specs.Progress.{active, is_invulnerable}
use Rattle.gen1_machine.specs.State.{with_types_of}
use Rattle.gen1_effects.proofs.Failing.{ended, fails_then, past_fail}
use Rattle.gen1_effects.proofs.early_effects.own_effects.convert.Goals as goal

pub returns-then-is_on-clause-shown : goal.returns-then-is_on-clause-shown
unfolding convert
returns-then-is_on-clause-shown t c g p h =
    rw (← c.other-foe.ensures) (ended _ (fails_then c.args.side (is_invulnerable c.other-foe.result) _
    (sym (c.is_on.ensures.stands 5 refl _ _ h.within) ∙ c.if-is_on.true) c.fail.ensures.shown h))

pub returns-clause-shown : goal.returns-clause-shown
unfolding convert take_types with_types_of
returns-clause-shown t c g p h =
    let foe = active_in c.other-foe.result p.field in
    let change = with_types_of foe in
    let first = c.first_type-first.ensures.stands _ _ h.within in
    let second = c.second_type-second.ensures.stands _ _ h.within in
    let w = c.put_types.ensures.stands _ p.field change h.within (rw (first, second) refl) in
    let a = told_so h (changed_active c.args.side change) (λ (f : Field). events.Start (who_in c.args.side f) volatiles.TypeChange) w c.push.ensures.told
    (ap (λ (who : Who). events.Start who volatiles.TypeChange) (c.who.ensures.stands _ _ w)) in
    rw (← c.other-foe.ensures) (ended _ (past_fail c.args.side (is_invulnerable c.other-foe.result) _
    (sym (c.is_on.ensures.stands 5 refl _ _ h.within) ∙ c.if-is_on.false) h
    (seeing (active c.other-foe.result) (take_types c.args.side) refl a)))
