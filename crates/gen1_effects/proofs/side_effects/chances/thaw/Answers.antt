use Rattle.gen1_layout.proofs.Words.{Field, Who, ap, changed_member, if_not, if_so, refl, stays, sym, told_so, who_in, ◌∙◌}
use Rattle.gen1_stats.specs.declared.member.Status.TheVariants.{Healthy}
use Rattle.gen1_machine.specs.declared.event.Event.TheVariants as events
use Rattle.gen1_machine.specs.declared.event.Kind.TheVariants as kinds
use Rattle.gen1_machine.specs.Progress.{cure}
use Rattle.gen1_machine.specs.Sides.{other}
use Rattle.gen1_machine.specs.SideEffects.{thaw}
use Rattle.gen1_machine.specs.State.{with_status}
use Rattle.gen1_effects.proofs.side_effects.chances.thaw.Goals as goal

pub returns-then-not-thaws-clause-shown : goal.returns-then-not-thaws-clause-shown
unfolding thaw
returns-then-not-thaws-clause-shown t c g p h =
    let status = rw c.other-foe.ensures at (c.status.ensures.stands _ _ h.within) in
    let is = rw (c.kind.ensures, status) at c.thaws.ensures in
    if_not _ _ _ (sym is ∙ c.if-not-thaws.true) (stays h)

pub returns-clause-shown : goal.returns-clause-shown
unfolding thaw cure with_status
returns-clause-shown t c g p h =
    let foe = other c.args.side in
    let status = rw c.other-foe.ensures at (c.status.ensures.stands _ _ h.within) in
    let is = rw (c.kind.ensures, status) at c.thaws.ensures in
    let w = (rw c.other-foe.ensures at c.put_status.ensures.stands) _ p.field (with_status Healthy) h.within refl tt in
    let who = rw c.other-foe.ensures at (c.who.ensures.stands _ _ w) in
    if_so _ _ _ (sym is ∙ c.if-not-thaws.false)
    (told_so h (changed_member foe (with_status Healthy)) (λ (f : Field). events.Cure (who_in foe f) kinds.Freeze) w c.push.ensures.told
    (ap (λ (who : Who). events.Cure who kinds.Freeze) who))
