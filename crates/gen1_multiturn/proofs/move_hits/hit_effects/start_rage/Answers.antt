use Rattle.gen1_layout.proofs.Words.{changed_conditions, conditions_in, if_not, if_so, lit<, refl, stays, sym, told_so, who_in, ◌∙◌}
use Rattle.gen1_machine.specs.declared.event.Event.TheVariants as events
use Rattle.gen1_machine.specs.declared.event.Volatile.TheVariants as volatiles
use Rattle.gen1_machine.specs.Conditions.{with_rage}
use Rattle.gen1_machine.specs.HitEffects.{start_rage}
use Rattle.gen1_machine.specs.Progress.{starts}
use Rattle.gen1_multiturn.proofs.MoveHits.{raging-same}
use Rattle.gen1_multiturn.proofs.move_hits.hit_effects.start_rage.Goals as goal

pub returns-then-is_on-clause-shown : goal.returns-then-is_on-clause-shown
unfolding start_rage
returns-then-is_on-clause-shown t c g p h = if_so _ _ _ (sym (c.is_on.ensures.stands 11 refl _ _ h.within) ∙ c.if-is_on.true) (stays h)

pub returns-clause-shown : goal.returns-clause-shown
unfolding start_rage starts with_rage
returns-clause-shown t c g p h =
    let s = c.args.side in
    let w = c.put_flag.ensures.stands 11 refl (lit< tt) _ p.field with_rage h.within refl (raging-same (conditions_in s p.field)) in
    let who = c.who.ensures.stands _ _ w in
    if_not _ _ _ (sym (c.is_on.ensures.stands 11 refl _ _ h.within) ∙ c.if-is_on.false)
    (told_so h (changed_conditions s with_rage) (λ f. events.Start (who_in s f) volatiles.Rage) w c.push.ensures.told (rw who refl))
