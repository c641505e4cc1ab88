use Rattle.gen1_layout.proofs.Words.{ends, refl, stay, stays, still, ◌∙◌}
use Rattle.gen1_machine.specs.declared.event.Volatile.TheVariants as volatiles
use Rattle.gen1_machine.specs.Conditions.{without_confusion}
use Rattle.gen1_machine.specs.Gate.{confusion_test}
use Rattle.gen1_machine.proofs.Keeps.{ends-keeps, stay-keeps}
use Rattle.gen1_status.specs.declared.gate_answer.Gate.TheVariants.{Go}
use Rattle.gen1_status.proofs.Statuses.{at_most, not_at_most}
use Rattle.gen1_status.proofs.Told.{conditions-spare, drawn_tells, still_tells, tells, tells_if_not, tells_if_so}
use Rattle.gen1_status.proofs.gate_tests.confusion.confusion_test.Goals as goal

pub returns-in_default-clause-shown : goal.returns-in_default-clause-shown
unfolding confusion_test
returns-in_default-clause-shown t c since g p is h = rw c.in_default.is (drawn_tells Go stay refl stay-keeps (still h (stays h.shows)))

pub returns-then-turns-le1-clause-shown : goal.returns-then-turns-le1-clause-shown
unfolding confusion_test
returns-then-turns-le1-clause-shown t c since g p is h =
    let keeps = ends-keeps c.args.side volatiles.Confusion without_confusion (conditions-spare _ c.args.side without_confusion) in
    rw c.in-Some.is (tells_if_so _ _ _ (at_most _ 1 c.if-turns-le1.true)
    (still_tells h (tells Go (ends c.args.side volatiles.Confusion without_confusion) refl keeps (c.confusion_ends.ensures.shown _ _ h.shows))))

pub returns-clause-shown : goal.returns-clause-shown
unfolding confusion_test
returns-clause-shown t c since g p is h =
    rw c.in-Some.is (tells_if_not _ _ _ (not_at_most _ 1 c.if-turns-le1.false) (c.confusion_lasts.ensures.shown since g p (is ∙ c.in-Some.is) h))
