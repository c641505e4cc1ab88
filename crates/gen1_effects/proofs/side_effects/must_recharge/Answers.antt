use Rattle.gen1_layout.proofs.Words.{Field, Who, ap, changed_conditions, conditions_in, lit<, refl, told_so, who_in}
use Rattle.gen1_machine.specs.declared.event.Event.TheVariants as events
use Rattle.gen1_machine.specs.Conditions.{with_recharge}
use Rattle.gen1_machine.specs.SideEffects.{must_recharge}
use Rattle.gen1_effects.proofs.SideEffects.{recharging-same}
use Rattle.gen1_effects.proofs.side_effects.must_recharge.Goals as goal

pub returns-clause-shown : goal.returns-clause-shown
unfolding must_recharge with_recharge
returns-clause-shown t c g p h =
    let s = c.args.side in
    let w = c.put_flag.ensures.stands 10 refl (lit< tt) _ p.field with_recharge h.within refl (recharging-same (conditions_in s p.field)) in
    told_so h (changed_conditions s with_recharge) (λ (f : Field). events.MustRecharge (who_in s f)) w c.push.ensures.told
    (ap (λ (who : Who). events.MustRecharge who) (c.who.ensures.stands _ _ w))
