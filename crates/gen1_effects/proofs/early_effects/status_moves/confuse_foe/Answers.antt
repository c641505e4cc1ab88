use Rattle.gen1_layout.proofs.Words.{drawn_goes, drawn_settled, drawn_stops, sym, ◌∙◌}
use Rattle.gen1_machine.specs.EarlyEffects.{confuse_foe}
use Rattle.gen1_machine.specs.Progress.{has_substitute, is_confused}
use Rattle.gen1_hits.specs.Knowing.{knowing}
use Rattle.gen1_effects.proofs.Failing.{drawn_ended, drawn_fails, drawn_past}
use Rattle.gen1_rolls.specs.Draws.{by_then}
use Rattle.gen1_effects.proofs.early_effects.status_moves.confuse_foe.Goals as goal

pub returns-then-has_substitute-clause-shown : goal.returns-then-has_substitute-clause-shown
unfolding confuse_foe
returns-then-has_substitute-clause-shown t c since g p h =
    rw (← c.other-foe.ensures) (drawn_ended _ (drawn_fails c.args.known.now g c.args.side (has_substitute c.other-foe.result) _
    (sym (c.has_substitute.ensures.stands _ _ h.shows.within) ∙ c.if-has_substitute.true) c.fail.ensures.shown h))

pub returns-then-must_hit-clause-shown : goal.returns-then-must_hit-clause-shown
unfolding confuse_foe
returns-then-must_hit-clause-shown t c since g p h =
    rw (← c.other-foe.ensures) (drawn_ended _ (drawn_past c.args.side (has_substitute c.other-foe.result) _
    (sym (c.has_substitute.ensures.stands _ _ h.shows.within) ∙ c.if-has_substitute.false) h
    (drawn_stops _ _ (drawn_settled c.if-must_hit.true (c.must_hit.ensures.shown since g p h)))))

pub returns-then-is_confused-clause-shown : goal.returns-then-is_confused-clause-shown
unfolding confuse_foe
returns-then-is_confused-clause-shown t c since g p h =
    let a = drawn_settled c.if-must_hit.false (c.must_hit.ensures.shown since g p h) in
    rw (← c.other-foe.ensures) (drawn_ended _ (drawn_past c.args.side (has_substitute c.other-foe.result) _
    (sym (c.has_substitute.ensures.stands _ _ h.shows.within) ∙ c.if-has_substitute.false) h
    (drawn_goes _ _ a (drawn_fails c.must_hit.new.known g c.args.side (is_confused c.other-foe.result) _
    (sym (c.is_confused.ensures.stands _ _ a.shows.within) ∙ c.if-is_confused.true) c.fail-then-is_confused.ensures.shown a))))

pub returns-clause-shown : goal.returns-clause-shown
unfolding confuse_foe
returns-clause-shown t c since g p h =
    let a = drawn_settled c.if-must_hit.false (c.must_hit.ensures.shown (by_then c.confuse.ensures.steps since) g p h) in
    rw (← c.other-foe.ensures) (drawn_ended _ (drawn_past c.args.side (has_substitute c.other-foe.result) _
    (sym (c.has_substitute.ensures.stands _ _ h.shows.within) ∙ c.if-has_substitute.false) h
    (drawn_goes _ _ a (drawn_past c.args.side (is_confused c.other-foe.result) _
    (sym (c.is_confused.ensures.stands _ _ a.shows.within) ∙ c.if-is_confused.false) a
    (c.confuse.ensures.shown since (knowing c.must_hit.new.known g) _ a)))))
