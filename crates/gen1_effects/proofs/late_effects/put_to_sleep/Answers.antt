use Rattle.gen1_machine.specs.LateEffects.{put_to_sleep}
use Rattle.gen1_layout.proofs.Chain.{drawn_goes, drawn_settled, drawn_stops}
use Rattle.gen1_hits.specs.Knowing.{knowing}
use Rattle.gen1_rolls.specs.Draws.{by_then}
use Rattle.gen1_effects.proofs.late_effects.put_to_sleep.Goals as goal

pub returns-then-ready_to_sleep-clause-shown : goal.returns-then-ready_to_sleep-clause-shown
unfolding put_to_sleep
returns-then-ready_to_sleep-clause-shown t c since g p h =
    drawn_stops _ _ (drawn_settled c.if-ready_to_sleep.true (c.ready_to_sleep.ensures.shown since g p h))

pub returns-clause-shown : goal.returns-clause-shown
unfolding put_to_sleep
returns-clause-shown t c since g p h =
    let a = drawn_settled c.if-ready_to_sleep.false (c.ready_to_sleep.ensures.shown (by_then c.sleep_by_rules.ensures.steps since) g p h) in
    drawn_goes _ _ a (c.sleep_by_rules.ensures.shown since (knowing c.ready_to_sleep.new.known g) _ a)
