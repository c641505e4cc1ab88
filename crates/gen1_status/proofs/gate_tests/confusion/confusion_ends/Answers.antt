use Rattle.gen1_layout.proofs.Words.{Field, Who, ap, changed_conditions, ends, refl, told_so, who_in}
use Rattle.gen1_machine.specs.declared.event.Event.TheVariants as events
use Rattle.gen1_machine.specs.declared.event.Volatile.TheVariants as volatiles
use Rattle.gen1_machine.specs.Conditions.{without_confusion}
use Rattle.gen1_status.proofs.gate_tests.confusion.confusion_ends.Goals as goal

pub returns-clause-shown : goal.returns-clause-shown
unfolding ends without_confusion
returns-clause-shown t c g p h =
    let w = c.put_confused.ensures.stands _ p.field without_confusion h.within refl tt in
    told_so h (changed_conditions c.args.side without_confusion) (λ (f : Field). events.End (who_in c.args.side f) volatiles.Confusion) w c.push.ensures.told
    (ap (λ (who : Who). events.End who volatiles.Confusion) (c.who.ensures.stands _ _ w))
