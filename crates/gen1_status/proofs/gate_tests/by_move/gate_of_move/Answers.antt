use Rattle.gen1_layout.proofs.Words.{drawn_settled, halted, refl, settled, stay, stays, still, stop, sym, ◌∙◌}
use Rattle.gen1_machine.specs.Gate.{confusion_test, disabled_test, gate_of_move, paralysis_test}
use Rattle.gen1_machine.proofs.Keeps.{stay-keeps, stop-keeps}
use Rattle.gen1_machine.proofs.Steady.{disabled_test-steady, paralysis_test-steady}
use Rattle.gen1_status.specs.declared.gate_answer.Gate.TheVariants.{Go, Stop}
use Rattle.gen1_status.proofs.Told.{drawn_tells, outcome-breaks, outcome-steady, still_tells, tells, tells_goes, tells_if_not, tells_if_so, tells_seeing, tells_stops, went}
use Rattle.gen1_rolls.specs.Draws.{by_then}
use Rattle.gen1_status.proofs.gate_tests.by_move.gate_of_move.Goals as goal

pub returns-then-stops-clause-shown : goal.returns-then-stops-clause-shown
unfolding gate_of_move
returns-then-stops-clause-shown t c since g p h =
    let is = c.confused.ensures.stands _ _ h.shows.within in
    tells_stops _ _ (sym c.stops.ensures ∙ c.if-stops.true)
    (tells_seeing _ (confusion_test c.args.side) is (c.confusion_test-confused.ensures.shown since g p (sym is) h))

pub returns-then-disabled_test-clause-shown : goal.returns-then-disabled_test-clause-shown
unfolding gate_of_move
returns-then-disabled_test-clause-shown t c since g p h =
    let is = c.confused.ensures.stands _ _ h.shows.within in
    let a = went (sym c.stops.ensures ∙ c.if-stops.false) (tells_seeing _ (confusion_test c.args.side) is (c.confusion_test-confused.ensures.shown since g p (sym is) h)) in
    let b = still_tells a.shows (tells Stop (disabled_test c.args.side c.args.pick) refl (disabled_test-steady (outcome-steady _) c.args.side c.args.pick)
    (settled c.if-disabled_test.true (c.disabled_test.ensures.shown _ _ a.shows.shows))) in
    tells_goes _ _ a (tells_stops _ _ refl b)

pub returns-then-paralysis_test-clause-shown : goal.returns-then-paralysis_test-clause-shown
unfolding gate_of_move
returns-then-paralysis_test-clause-shown t c since g p h =
    let is = c.confused.ensures.stands _ _ h.shows.within in
    let a = went (sym c.stops.ensures ∙ c.if-stops.false) (tells_seeing _ (confusion_test c.args.side) is (c.confusion_test-confused.ensures.shown (by_then c.paralysis_test.ensures.steps since) g p (sym is) h)) in
    let b = still_tells a.shows (tells Go (disabled_test c.args.side c.args.pick) refl (disabled_test-steady (outcome-steady _) c.args.side c.args.pick)
    (settled c.if-disabled_test.false (c.disabled_test.ensures.shown _ _ a.shows.shows))) in
    let d = drawn_tells Stop (paralysis_test c.args.side) refl (paralysis_test-steady (outcome-steady _) c.args.side (outcome-breaks _ c.args.side))
    (drawn_settled c.if-paralysis_test.true (c.paralysis_test.ensures.shown since _ _ b.shows)) in
    tells_goes _ _ a (tells_goes _ _ b (tells_stops _ _ refl d))

pub returns-then-is_idle-clause-shown : goal.returns-then-is_idle-clause-shown
unfolding gate_of_move
returns-then-is_idle-clause-shown t c since g p h =
    let is = c.confused.ensures.stands _ _ h.shows.within in
    let a = went (sym c.stops.ensures ∙ c.if-stops.false) (tells_seeing _ (confusion_test c.args.side) is (c.confusion_test-confused.ensures.shown (by_then c.paralysis_test.ensures.steps since) g p (sym is) h)) in
    let b = still_tells a.shows (tells Go (disabled_test c.args.side c.args.pick) refl (disabled_test-steady (outcome-steady _) c.args.side c.args.pick)
    (settled c.if-disabled_test.false (c.disabled_test.ensures.shown _ _ a.shows.shows))) in
    let d = drawn_tells Go (paralysis_test c.args.side) refl (paralysis_test-steady (outcome-steady _) c.args.side (outcome-breaks _ c.args.side))
    (drawn_settled c.if-paralysis_test.false (c.paralysis_test.ensures.shown since _ _ b.shows)) in
    tells_goes _ _ a (tells_goes _ _ b (tells_goes _ _ d
    (tells_if_so _ _ _ (sym c.is_idle.ensures ∙ c.if-is_idle.true) (drawn_tells Stop stop refl stop-keeps (still d.shows (halted d.shows.shows))))))

pub returns-clause-shown : goal.returns-clause-shown
unfolding gate_of_move
returns-clause-shown t c since g p h =
    let is = c.confused.ensures.stands _ _ h.shows.within in
    let a = went (sym c.stops.ensures ∙ c.if-stops.false) (tells_seeing _ (confusion_test c.args.side) is (c.confusion_test-confused.ensures.shown (by_then c.paralysis_test.ensures.steps since) g p (sym is) h)) in
    let b = still_tells a.shows (tells Go (disabled_test c.args.side c.args.pick) refl (disabled_test-steady (outcome-steady _) c.args.side c.args.pick)
    (settled c.if-disabled_test.false (c.disabled_test.ensures.shown _ _ a.shows.shows))) in
    let d = drawn_tells Go (paralysis_test c.args.side) refl (paralysis_test-steady (outcome-steady _) c.args.side (outcome-breaks _ c.args.side))
    (drawn_settled c.if-paralysis_test.false (c.paralysis_test.ensures.shown since _ _ b.shows)) in
    tells_goes _ _ a (tells_goes _ _ b (tells_goes _ _ d
    (tells_if_not _ _ _ (sym c.is_idle.ensures ∙ c.if-is_idle.false) (drawn_tells Go stay refl stay-keeps (still d.shows (stays d.shows.shows))))))
