use Rattle.gen1_layout.proofs.Words.{drawn_goes, drawn_settled, drawn_stops, sym, ◌∙◌}
use Rattle.gen1_tables.specs.declared.types.Element.TheVariants.{Poison}
use Rattle.gen1_machine.specs.EarlyEffects.{poison_foe}
use Rattle.gen1_machine.specs.Progress.{has_status, has_substitute, is_of}
use Rattle.gen1_hits.proofs.Knowledge.{plain_still}
use Rattle.gen1_effects.proofs.Failing.{drawn_ended, drawn_fails, drawn_past}
use Rattle.gen1_effects.proofs.early_effects.status_moves.poison_foe.Goals as goal

pub returns-then-has_substitute-clause-shown : goal.returns-then-has_substitute-clause-shown
unfolding poison_foe
returns-then-has_substitute-clause-shown t c since g p h =
    rw (← c.other-foe.ensures) (drawn_ended _ (drawn_fails c.args.known.now g c.args.side (has_substitute c.other-foe.result) _
    (sym (c.has_substitute.ensures.stands _ _ h.shows.within) ∙ c.if-has_substitute.true) c.fail.ensures.shown h))

pub returns-then-has_status-clause-shown : goal.returns-then-has_status-clause-shown
unfolding poison_foe
returns-then-has_status-clause-shown t c since g p h =
    rw (← c.other-foe.ensures) (drawn_ended _ (drawn_past c.args.side (has_substitute c.other-foe.result) _
    (sym (c.has_substitute.ensures.stands _ _ h.shows.within) ∙ c.if-has_substitute.false) h
    (drawn_fails c.args.known.now g c.args.side (has_status c.other-foe.result) _
    (sym (c.has_status.ensures.stands _ _ h.shows.within) ∙ c.if-has_status.true) c.fail-then-has_status.ensures.shown h)))

pub returns-then-has_type-clause-shown : goal.returns-then-has_type-clause-shown
unfolding poison_foe
returns-then-has_type-clause-shown t c since g p h =
    rw (← c.other-foe.ensures) (drawn_ended _ (drawn_past c.args.side (has_substitute c.other-foe.result) _
    (sym (c.has_substitute.ensures.stands _ _ h.shows.within) ∙ c.if-has_substitute.false) h
    (drawn_past c.args.side (has_status c.other-foe.result) _
    (sym (c.has_status.ensures.stands _ _ h.shows.within) ∙ c.if-has_status.false) h
    (drawn_fails c.args.known.now g c.args.side (is_of c.other-foe.result Poison) _
    (sym (c.has_type.ensures.stands _ _ h.shows.within) ∙ c.if-has_type.true) c.fail-then-has_type.ensures.shown h))))

pub returns-then-must_hit-clause-shown : goal.returns-then-must_hit-clause-shown
unfolding poison_foe
returns-then-must_hit-clause-shown t c since g p h =
    rw (← c.other-foe.ensures) (drawn_ended _ (drawn_past c.args.side (has_substitute c.other-foe.result) _
    (sym (c.has_substitute.ensures.stands _ _ h.shows.within) ∙ c.if-has_substitute.false) h
    (drawn_past c.args.side (has_status c.other-foe.result) _
    (sym (c.has_status.ensures.stands _ _ h.shows.within) ∙ c.if-has_status.false) h
    (drawn_past c.args.side (is_of c.other-foe.result Poison) _
    (sym (c.has_type.ensures.stands _ _ h.shows.within) ∙ c.if-has_type.false) h
    (drawn_stops _ _ (drawn_settled c.if-must_hit.true (c.must_hit.ensures.shown since g p h)))))))

pub returns-clause-shown : goal.returns-clause-shown
unfolding poison_foe
returns-clause-shown t c since g p h =
    let a = drawn_settled c.if-must_hit.false (c.must_hit.ensures.shown since g p h) in
    rw (← c.other-foe.ensures) (drawn_ended _ (drawn_past c.args.side (has_substitute c.other-foe.result) _
    (sym (c.has_substitute.ensures.stands _ _ h.shows.within) ∙ c.if-has_substitute.false) h
    (drawn_past c.args.side (has_status c.other-foe.result) _
    (sym (c.has_status.ensures.stands _ _ h.shows.within) ∙ c.if-has_status.false) h
    (drawn_past c.args.side (is_of c.other-foe.result Poison) _
    (sym (c.has_type.ensures.stands _ _ h.shows.within) ∙ c.if-has_type.false) h
    (drawn_goes _ _ a (plain_still c.must_hit.new.known g _ c.poison.ensures.shown a))))))
