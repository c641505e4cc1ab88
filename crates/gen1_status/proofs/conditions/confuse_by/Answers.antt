use Rattle.std.proofs.Common.{◌%◌, ◌+◌}
use Rattle.gen1_layout.proofs.Words.{Field, Who, ap, arith, changed_conditions, refl, told_so, who_in}
use Rattle.gen1_machine.specs.declared.event.Event.TheVariants as events
use Rattle.gen1_machine.specs.declared.event.Volatile.TheVariants as volatiles
use Rattle.gen1_machine.specs.Conditions.{with_confusion}
use Rattle.gen1_machine.specs.Progress.{starts}
use Rattle.gen1_machine.specs.EarlyEffects.{confused_by}
use Rattle.gen1_status.proofs.conditions.confuse_by.Goals as goal

pub returns-clause-shown : goal.returns-clause-shown
unfolding confused_by starts with_confusion
returns-clause-shown t c g p h =
    let turns = c.args.byte % 4 + 2 in
    let w = c.put_confused.ensures.stands _ p.field (with_confusion turns) h.within refl (omega arith, omega arith) in
    told_so h (changed_conditions c.args.side (with_confusion turns)) (λ (f : Field). events.Start (who_in c.args.side f) volatiles.Confusion) w c.push.ensures.told
    (ap (λ (who : Who). events.Start who volatiles.Confusion) (c.who.ensures.stands _ _ w))
