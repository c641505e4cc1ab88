use Rattle.std.proofs.Common.{◌%◌, ◌+◌}
use Rattle.gen1_layout.proofs.Words.{Field, Who, ap, arith, changed_conditions, refl, told_so, who_in}
use Rattle.gen1_machine.specs.declared.event.Event.TheVariants as events
use Rattle.gen1_machine.specs.declared.event.Volatile.TheVariants as volatiles
use Rattle.gen1_machine.specs.Conditions.{with_bide}
use Rattle.gen1_machine.specs.LateEffects.{bide_for}
use Rattle.gen1_machine.specs.Progress.{starts}
use Rattle.gen1_status.proofs.conditions.bide_for.Goals as goal

pub returns-clause-shown : goal.returns-clause-shown
unfolding bide_for starts with_bide
returns-clause-shown t c g p untied h =
    let s = c.args.side in
    let turns = c.args.byte % 2 + 2 in
    let w = c.put_bide.ensures.stands _ p.field (with_bide turns) h.within refl (omega arith) untied.0 untied.1 in
    told_so h (changed_conditions s (with_bide turns)) (λ (f : Field). events.Start (who_in s f) volatiles.Bide) w c.push.ensures.told
    (ap (λ (who : Who). events.Start who volatiles.Bide) (c.who.ensures.stands _ _ w))
