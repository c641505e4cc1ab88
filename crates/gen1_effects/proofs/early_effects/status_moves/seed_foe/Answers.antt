use Rattle.std.proofs.Common.{◌||◌}
use Rattle.gen1_layout.proofs.Words.{Bool, Field, Progress, Side, Who, ap, changed_conditions, conditions_in, drawn_goes, drawn_settled, drawn_stops, lit<, refl, still, sym, told_so, who_in, ◌∙◌}
use Rattle.gen1_tables.specs.declared.types.Element.TheVariants.{Grass}
use Rattle.gen1_machine.specs.declared.event.Event.TheVariants as events
use Rattle.gen1_machine.specs.declared.event.Volatile.TheVariants as volatiles
use Rattle.gen1_machine.specs.Conditions.{with_seed}
use Rattle.gen1_machine.specs.EarlyEffects.{seed_foe}
use Rattle.gen1_machine.specs.Progress.{conditions, is_of, starts}
use Rattle.gen1_effects.proofs.Failing.{drawn_ended, drawn_fails, drawn_past}
use Rattle.gen1_effects.proofs.SideEffects.{seed-same}
use Rattle.gen1_effects.proofs.early_effects.status_moves.seed_foe.Goals as goal

abbrev unseeded : Side → Progress → Bool
unseeded s p = (conditions s p).seeded || is_of s Grass p

pub returns-then-must_hit-clause-shown : goal.returns-then-must_hit-clause-shown
unfolding seed_foe
returns-then-must_hit-clause-shown t c since g p h = drawn_ended _ (drawn_stops _ _ (drawn_settled c.if-must_hit.true (c.must_hit.ensures.shown since g p h)))

pub returns-then-takes_no_seed-clause-shown : goal.returns-then-takes_no_seed-clause-shown
unfolding seed_foe
returns-then-takes_no_seed-clause-shown t c since g p h =
    let a = drawn_settled c.if-must_hit.false (c.must_hit.ensures.shown since g p h) in
    rw (← c.other-foe.ensures) (drawn_ended _ (drawn_goes _ _ a (drawn_fails c.must_hit.new.known g c.args.side (unseeded c.other-foe.result) _
    (sym (c.takes_no_seed.ensures.stands _ _ a.shows.within) ∙ c.if-takes_no_seed.true) c.fail.ensures.shown a)))

pub returns-clause-shown : goal.returns-clause-shown
unfolding seed_foe starts with_seed
returns-clause-shown t c since g p h =
    let foe = c.other-foe.result in
    let a = drawn_settled c.if-must_hit.false (c.must_hit.ensures.shown since g p h) in
    let w = c.put_flag.ensures.stands 12 refl (lit< tt) _ _ with_seed a.shows.within refl (seed-same (conditions_in foe _)) in
    let b = told_so a.shows (changed_conditions foe with_seed) (λ (f : Field). events.Start (who_in foe f) volatiles.LeechSeed) w c.push.ensures.told
    (ap (λ (who : Who). events.Start who volatiles.LeechSeed) (c.who.ensures.stands _ _ w)) in
    rw (← c.other-foe.ensures) (drawn_ended _ (drawn_goes _ _ a (drawn_past c.args.side (unseeded foe) _
    (sym (c.takes_no_seed.ensures.stands _ _ a.shows.within) ∙ c.if-takes_no_seed.false) a (still a b))))
