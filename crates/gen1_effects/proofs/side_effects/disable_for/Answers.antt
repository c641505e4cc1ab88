use Rattle.std.proofs.Common.{◌%◌, ◌+◌, ◌<◌}
use Rattle.gen1_layout.proofs.Words.{Field, Who, ap, arith, changed_conditions, length, refl, told_so, who_in}
use Rattle.gen1_machine.specs.declared.event.Event.TheVariants as events
use Rattle.gen1_machine.specs.declared.event.Volatile.TheVariants as volatiles
use Rattle.gen1_machine.specs.Conditions.{with_disabled}
use Rattle.gen1_machine.specs.Progress.{member, starts}
use Rattle.gen1_machine.specs.SideEffects.{disable_for}
use Rattle.gen1_effects.proofs.DisabledSlots.{named_holds}
use Rattle.gen1_effects.proofs.side_effects.disable_for.Goals as goal

pub returns-clause-shown : goal.returns-clause-shown
unfolding disable_for starts with_disabled
returns-clause-shown t c g p named h =
    let foe = c.args.foe in
    let slot = c.args.byte % 4 + 1 in
    let turns = c.args.count % 8 + 1 in
    let held : c.args.byte % 4 < length (member foe p).moves = named_holds (member foe p).moves c.args.byte named in
    let w = c.put_disabled.ensures.stands _ p.field (with_disabled slot turns) h.within refl ((omega arith, omega arith), omega arith) in
    told_so h (changed_conditions foe (with_disabled slot turns)) (λ (f : Field). events.Start (who_in foe f) volatiles.Disable) w c.push.ensures.told
    (ap (λ (who : Who). events.Start who volatiles.Disable) (c.who.ensures.stands _ _ w))
