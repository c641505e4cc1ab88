use Rattle.gen1_layout.proofs.Words.{changed_member, health_in, if_not, if_so, refl, stays, sym, told_so, who_in, ◌∙◌}
use Rattle.gen1_machine.specs.declared.event.Event.TheVariants as events
use Rattle.gen1_machine.specs.State.{healed_by}
use Rattle.gen1_machine.specs.Progress.{gain_hp}
use Rattle.gen1_hits.proofs.landing.gain_hp.Goals as goal

pub returns-then-not-gains-clause-shown : goal.returns-then-not-gains-clause-shown
unfolding gain_hp
returns-then-not-gains-clause-shown t c g p h = if_not _ _ _ (sym (c.gains.ensures.stands _ _ h.within) ∙ c.if-not-gains.true) (stays h)

pub returns-clause-shown : goal.returns-clause-shown
unfolding gain_hp
returns-clause-shown t c g p h =
    let s = c.args.side in
    let w = c.heal.ensures.stands _ _ h.within in
    let seen = c.seen.ensures.stands _ _ w in
    if_so _ _ _ (sym (c.gains.ensures.stands _ _ h.within) ∙ c.if-not-gains.false)
    (told_so h (changed_member s (healed_by c.args.amount)) (λ f. events.Heal (who_in s f) (health_in s f)) w
    (λ told. c.push_untested.ensures.told told seen.ranges) (rw (seen.who, seen.health) refl))
