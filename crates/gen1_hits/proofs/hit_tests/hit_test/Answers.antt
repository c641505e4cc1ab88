use Rattle.gen1_layout.proofs.Words.{Action, Some, acted, drawn_goes, drawn_seeing, goes, refl, still}
use Rattle.gen1_machine.specs.HitTest.{hit_test, set_tested, test_by}
use Rattle.gen1_hits.proofs.hit_tests.hit_test.Goals as goal

pub returns-in-Some-true-clause-shown : goal.returns-in-Some-true-clause-shown
unfolding hit_test test_by set_tested
returns-in-Some-true-clause-shown t c told since g p h =
    let is = rw c.in-Some-true.field-0-test at (c.in-Some-true.ensures.stands _ _ h.shows.within) in
    let tested = acted (λ (x : Action). record x { accuracy_tested = Some c.args.base }) h.shows in
    drawn_seeing _ (test_by c.args.side c.args.base) is (still h tested)

pub returns-in-Some-false-clause-shown : goal.returns-in-Some-false-clause-shown
unfolding hit_test test_by set_tested
returns-in-Some-false-clause-shown t c told since g p h =
    let is = rw c.in-Some-false.field-0-test at (c.in-Some-false.ensures.stands _ _ h.shows.within) in
    let tested = acted (λ (x : Action). record x { accuracy_tested = Some c.args.base }) h.shows in
    drawn_seeing _ (test_by c.args.side c.args.base) is (still h (goes _ _ tested (c.miss.ensures.shown _ _ _ tested)))

pub returns-in-None-clause-shown : goal.returns-in-None-clause-shown
unfolding hit_test test_by set_tested
returns-in-None-clause-shown t c told since g p h =
    let is = c.in-None.ensures.stands _ _ h.shows.within in
    let byte = c.scaled_accuracy-kept.ensures.stands _ _ h.shows.within in
    let tested = still h (acted (λ (x : Action). record x { accuracy_tested = Some c.scaled_accuracy-kept.result }) h.shows) in
    drawn_seeing _ (test_by c.args.side c.args.base) is
    (drawn_seeing _ _ byte (drawn_goes _ _ tested (c.draw_below-hit.ensures.shown _ since _ _ tested)))
