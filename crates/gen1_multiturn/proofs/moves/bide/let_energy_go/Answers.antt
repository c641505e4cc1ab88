use Rattle.std.proofs.Common.{◌==◌}
use Rattle.gen1_layout.proofs.Words.{Action, Field, Who, acted, ap, changed_conditions, ends, goes, put_damage, refl, told_so, true, who_in}
use Rattle.gen1_machine.specs.declared.event.Event.TheVariants as events
use Rattle.gen1_machine.specs.declared.event.Volatile.TheVariants as volatiles
use Rattle.gen1_machine.specs.Conditions.{without_bide}
use Rattle.gen1_machine.specs.GoingOn.{let_energy_go, set_letting_go}
use Rattle.gen1_machine.specs.Progress.{set_missed}
use Rattle.gen1_multiturn.proofs.moves.bide.let_energy_go.Goals as goal

pub returns-clause-shown : goal.returns-clause-shown
unfolding let_energy_go ends set_letting_go set_missed without_bide
returns-clause-shown t c energy is g p h =
    let s = c.args.side in
    let damage = c.args.damage in
    let w = c.end_bide.ensures.stands _ p.field without_bide h.within refl in
    let a = told_so h (changed_conditions s without_bide) (λ (f : Field). events.End (who_in s f) volatiles.Bide) w c.push.ensures.told
    (ap (λ (who : Who). events.End who volatiles.Bide) (c.who.ensures.stands _ _ w)) in
    let b = put_damage a damage (c.put_last_damage.ensures.stands _ _ a.within) in
    let d = acted (λ (x : Action). record x { letting_go = true }) b in
    let e = acted (λ (x : Action). record x { missed = damage == 0 }) d in
    rw (← is) (goes _ _ a (goes _ _ b (goes _ _ d e)))
