use Rattle.gen1_layout.proofs.Words.{Field, Who, ap, arith, changed_conditions, goes, refl, told_so, who_in}
use Rattle.gen1_machine.specs.declared.event.Event.TheVariants as events
use Rattle.gen1_machine.specs.declared.event.Volatile.TheVariants as volatiles
use Rattle.gen1_machine.specs.Conditions.{with_substitute}
use Rattle.gen1_machine.specs.EarlyEffects.{pay_for_substitute}
use Rattle.gen1_machine.specs.Progress.{starts}
use Rattle.gen1_status.proofs.conditions.pay_for_substitute.Goals as goal

pub returns-clause-shown : goal.returns-clause-shown
unfolding pay_for_substitute starts with_substitute
returns-clause-shown t c g p h =
    let s = c.args.side in
    let cost = c.args.cost in
    let w = c.put_substitute.ensures.stands _ p.field (with_substitute cost) h.within refl (omega arith, c.requires.most) in
    let a = told_so h (changed_conditions s (with_substitute cost)) (λ (f : Field). events.Start (who_in s f) volatiles.Substitute) w c.push.ensures.told
    (ap (λ (who : Who). events.Start who volatiles.Substitute) (c.who.ensures.stands _ _ w)) in
    goes _ _ a (c.lose_hp.ensures.shown g _ a)
