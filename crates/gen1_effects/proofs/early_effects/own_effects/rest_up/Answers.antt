use Rattle.gen1_layout.proofs.Words.{Field, Member, Who, ap, changed_member, false, goes, lit≤, refl, told_so, who_in}
use Rattle.gen1_stats.specs.declared.member.Status.TheVariants.{Asleep}
use Rattle.gen1_machine.specs.declared.event.Kind.TheVariants as kinds
use Rattle.gen1_machine.specs.declared.event.Event.TheVariants as events
use Rattle.gen1_machine.specs.EarlyEffects.{rest_up}
use Rattle.gen1_machine.specs.Progress.{gain_hp, member}
use Rattle.gen1_machine.specs.State.{with_status}
use Rattle.gen1_effects.proofs.Passing.{seeing_part}
use Rattle.gen1_effects.proofs.early_effects.own_effects.rest_up.Goals as goal

pub returns-clause-shown : goal.returns-clause-shown
unfolding rest_up with_status
returns-clause-shown t c g p h =
    let asleep = with_status (Asleep 2 false) in
    let w = c.put_status.ensures.stands _ p.field asleep h.within refl ((lit≤ tt, lit≤ tt), λ no. cc) in
    let a = told_so h (changed_member c.args.side asleep) (λ (f : Field). events.Status (who_in c.args.side f) kinds.Sleep) w c.push.ensures.told
    (ap (λ (who : Who). events.Status who kinds.Sleep) (c.who.ensures.stands _ _ w)) in
    goes _ _ a (seeing_part (member c.args.side) (λ (m : Member). m.max) (gain_hp c.args.side) (c.max_hp-most.ensures.stands _ _ a.within) (c.gain_hp.ensures.shown g _ a))
