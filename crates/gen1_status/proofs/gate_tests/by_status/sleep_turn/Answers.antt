use Rattle.gen1_layout.proofs.Words.{Field, Who, ap, arith, changed_member, goes, halted, if_not, if_so, member_in, member_ok, put_on_member, subst, told_so, who_in}
use Rattle.gen1_stats.specs.declared.member.Status.{Status}
use Rattle.gen1_machine.specs.declared.event.Kind.TheVariants as kinds
use Rattle.gen1_machine.specs.declared.event.Event.TheVariants as events
use Rattle.gen1_machine.specs.State.{with_sleep_one_less}
use Rattle.gen1_machine.specs.Valid.{IsStatus}
use Rattle.gen1_machine.specs.Gate.{sleep_on, sleep_test, wake}
use Rattle.gen1_status.proofs.Statuses.{at_most, not_at_most, one_turn_less, sleeps_on, wakes}
use Rattle.gen1_status.proofs.gate_tests.by_status.sleep_turn.Goals as goal

pub returns-then-turns-le1-clause-shown : goal.returns-then-turns-le1-clause-shown
unfolding sleep_test wake
returns-then-turns-le1-clause-shown t c g p asleep h =
    let w = c.put_status.ensures.stands _ p.field with_sleep_one_less h.within (wakes (member_in c.args.side p.field) asleep c.if-turns-le1.true) tt in
    let a = told_so h (changed_member c.args.side with_sleep_one_less) (λ (f : Field). events.Cure (who_in c.args.side f) kinds.Sleep) w c.push.ensures.told
    (ap (λ (who : Who). events.Cure who kinds.Sleep) (c.who.ensures.stands _ _ w)) in
    if_so _ _ _ (at_most c.args.turns 1 c.if-turns-le1.true) (goes _ _ a (halted a))

pub returns-clause-shown : goal.returns-clause-shown
unfolding sleep_test sleep_on
returns-clause-shown t c g p asleep h =
    let known = subst (λ (s : Status). IsStatus g.setting.terms.rules s) asleep (member_ok c.args.side h.within).status in
    let w = c.put_status-2.ensures.stands _ p.field with_sleep_one_less h.within (sleeps_on (member_in c.args.side p.field) asleep (omega arith))
    (one_turn_less g.setting.terms.rules known (omega arith)) in
    let a = put_on_member h c.args.side with_sleep_one_less w in
    if_not _ _ _ (not_at_most c.args.turns 1 (omega arith)) (goes _ _ a (c.cant.ensures.shown _ _ a))
