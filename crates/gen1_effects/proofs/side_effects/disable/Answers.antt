use Rattle.gen1_layout.proofs.Words.{drawn_goes, drawn_if_so, drawn_settled, drawn_stops, refl, sym, ◌∙◌}
use Rattle.gen1_machine.specs.Progress.{fails_if}
use Rattle.gen1_machine.specs.SideEffects.{disable}
use Rattle.gen1_hits.specs.Knowing.{knowing}
use Rattle.gen1_hits.proofs.Knowledge.{plain_still}
use Rattle.gen1_effects.proofs.Passing.{drawn_past}
use Rattle.gen1_rolls.specs.Draws.{by_then}
use Rattle.gen1_effects.proofs.side_effects.disable.Goals as goal

pub returns-then-must_hit-clause-shown : goal.returns-then-must_hit-clause-shown
unfolding disable
returns-then-must_hit-clause-shown t c since g p h =
    drawn_stops _ _ (drawn_settled c.if-must_hit.true (c.must_hit.ensures.shown since g p h))

pub returns-then-is_on-clause-shown : goal.returns-then-is_on-clause-shown
unfolding disable fails_if
returns-then-is_on-clause-shown t c since g p h =
    let a = drawn_settled c.if-must_hit.false (c.must_hit.ensures.shown since g p h) in
    let is = rw c.other.ensures at (c.is_on.ensures.stands 16 refl _ _ a.shows.within) in
    drawn_goes _ _ a (drawn_stops _ _ (drawn_if_so _ _ _ (sym is ∙ c.if-is_on.true) (plain_still c.must_hit.new.known g _ c.fail.ensures.shown a)))

pub returns-clause-shown : goal.returns-clause-shown
unfolding disable fails_if
returns-clause-shown t c since g p h =
    let a = drawn_settled c.if-must_hit.false (c.must_hit.ensures.shown (by_then c.draw_slot.ensures.steps since) g p h) in
    let is = rw c.other.ensures at (c.is_on.ensures.stands 16 refl _ _ a.shows.within) in
    drawn_goes _ _ a (drawn_past _ _ _ (sym is ∙ c.if-is_on.false) a (c.draw_slot.ensures.shown since (knowing c.must_hit.new.known g) _ a))
