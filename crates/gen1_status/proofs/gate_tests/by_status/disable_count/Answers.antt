use Rattle.gen1_layout.proofs.Words.{DisabledSlot, Field, Option, Who, active_ok, ap, arith, changed_conditions, conditions_in, ends, if_not, if_so, length, member_in, put_on_conditions, refl, stays, subst, told_so, who_in, ◌∙◌}
use Rattle.gen1_machine.specs.declared.event.Event.TheVariants as events
use Rattle.gen1_machine.specs.declared.event.Volatile.TheVariants as volatiles
use Rattle.gen1_machine.specs.Conditions.{with_disable_one_less, without_disable}
use Rattle.gen1_machine.specs.Gate.{disable_count}
use Rattle.gen1_layout.specs.Shows.{IsStorableDisabled}
use Rattle.gen1_status.proofs.Statuses.{less_disabled, at_most, not_at_most}
use Rattle.gen1_status.proofs.gate_tests.by_status.disable_count.Goals as goal

pub returns-in_default-clause-shown : goal.returns-in_default-clause-shown
unfolding disable_count
returns-in_default-clause-shown t c g p is h = rw c.in_default.is (stays h)

pub returns-then-turns-le1-clause-shown : goal.returns-then-turns-le1-clause-shown
unfolding disable_count ends without_disable
returns-then-turns-le1-clause-shown t c g p is h =
    let w = c.put_disabled.ensures.stands _ p.field without_disable h.within refl tt in
    rw c.in-Some.is (if_so _ _ _ (at_most _ 1 c.if-turns-le1.true)
    (told_so h (changed_conditions c.args.side without_disable) (λ (f : Field). events.End (who_in c.args.side f) volatiles.Disable) w c.push.ensures.told
    (ap (λ (who : Who). events.End who volatiles.Disable) (c.who.ensures.stands _ _ w))))

pub returns-clause-shown : goal.returns-clause-shown
unfolding disable_count
returns-clause-shown t c g p is h =
    let now = is ∙ c.in-Some.is in
    let known = subst (λ (o : Option DisabledSlot). IsStorableDisabled (length (member_in c.args.side p.field).moves) o) now (active_ok c.args.side h.within).conditions.disabled in
    let w = c.put_disabled-2.ensures.stands _ p.field with_disable_one_less h.within (less_disabled (conditions_in c.args.side p.field) _ now)
    (known.0, omega (arith, known.1)) in
    rw c.in-Some.is (if_not _ _ _ (not_at_most _ 1 (omega arith)) (put_on_conditions h c.args.side with_disable_one_less w))
