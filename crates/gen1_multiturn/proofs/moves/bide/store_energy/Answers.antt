use Rattle.gen1_layout.proofs.Words.{Field, Option, Who, active_ok, ap, arith, changed_conditions, conditions_in, goes, halted, subst, told_so, who_in}
use Rattle.gen1_machine.specs.declared.event.Event.TheVariants as events
use Rattle.gen1_machine.specs.declared.event.Volatile.TheVariants as volatiles
use Rattle.gen1_machine.specs.Conditions.{with_bide_storing, Storing}
use Rattle.gen1_machine.specs.GoingOn.{store_energy}
use Rattle.gen1_machine.specs.Progress.{lasts}
use Rattle.gen1_layout.specs.Shows.{IsStorableBide}
use Rattle.gen1_multiturn.proofs.Underways.{beside-bide, more_energy}
use Rattle.gen1_multiturn.proofs.moves.bide.store_energy.Goals as goal

pub returns-clause-shown : goal.returns-clause-shown
unfolding store_energy lasts
returns-clause-shown t c damage b few much g p is h =
    let s = c.args.side in
    let now = conditions_in s p.field in
    let change = with_bide_storing damage in
    let ok = (active_ok s h.within).conditions.underway in
    let known = subst (λ (o : Option Storing). IsStorableBide o) is ok.bide in
    let alone = beside-bide now.underway b ok is in
    let w = c.put_bide.ensures.stands _ p.field change h.within (more_energy now damage b c.args.turns c.args.energy is few much) (omega (arith, few, known.0)) alone.0 alone.1 in
    let a = told_so h (changed_conditions s change) (λ (f : Field). events.Activate (who_in s f) volatiles.Bide) w c.push.ensures.told
    (ap (λ (who : Who). events.Activate who volatiles.Bide) (c.who.ensures.stands _ _ w)) in
    goes _ _ a (halted a)
