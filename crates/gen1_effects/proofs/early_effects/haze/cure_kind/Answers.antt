use Rattle.gen1_layout.proofs.Words.{Field, Who, ap, changed_member, refl, stays, told_so, who_in}
use Rattle.gen1_stats.specs.declared.member.Status.TheVariants.{Healthy}
use Rattle.gen1_machine.specs.declared.event.Event.TheVariants as events
use Rattle.gen1_machine.specs.EarlyEffects.{cure_kind}
use Rattle.gen1_machine.specs.Progress.{cure}
use Rattle.gen1_machine.specs.State.{with_status}
use Rattle.gen1_effects.proofs.early_effects.haze.cure_kind.Goals as goal

pub returns-in-Some-clause-shown : goal.returns-in-Some-clause-shown
unfolding cure_kind cure with_status
returns-in-Some-clause-shown t c g p h =
    let kind = c.in-Some.kind in
    let w = c.put_status.ensures.stands _ p.field (with_status Healthy) h.within refl tt in
    rw c.in-Some.is (told_so h (changed_member c.args.side (with_status Healthy)) (λ (f : Field). events.Cure (who_in c.args.side f) kind) w c.push.ensures.told
    (ap (λ (who : Who). events.Cure who kind) (c.who.ensures.stands _ _ w)))

pub returns-in_default-clause-shown : goal.returns-in_default-clause-shown
unfolding cure_kind
returns-in_default-clause-shown t c g p h = rw c.in_default.is (stays h)
