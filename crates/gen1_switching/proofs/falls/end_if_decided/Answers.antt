use Rattle.std.proofs.Common.{not, ◌∙◌}
use Rattle.gen1_layout.proofs.Words.{ap, choose-false, if_so, past, stay, stops, sym}
use Rattle.gen1_machine.specs.Falls.{end_if_decided}
use Rattle.gen1_switching.proofs.Closed.{passed, turn_left}
use Rattle.gen1_switching.proofs.falls.end_if_decided.Goals as goal

pub returns-then-neither-clause-shown : goal.returns-then-neither-clause-shown
unfolding end_if_decided
returns-then-neither-clause-shown t c g p h =
    let one = c.has_living-one.ensures _ _ h.within in
    let two = c.has_living-two.ensures _ _ h.within in
    stops _ _ (if_so _ _ _ (rw (one, two) at c.if-neither.true) (c.battle_ends.ensures.shown tt g p h))

pub returns-then-not-one-clause-shown : goal.returns-then-not-one-clause-shown
unfolding end_if_decided
returns-then-not-one-clause-shown t c g p h =
    let one = c.has_living-one.ensures _ _ h.within in
    let two = c.has_living-two.ensures _ _ h.within in
    past _ _ _ (rw (one, two) at c.if-neither.false) h
    (stops _ _ (if_so _ _ _ (ap not (sym one ∙ c.if-not-one.true)) (c.battle_ends-then-not-one.ensures.shown tt g p h)))

pub returns-then-not-two-clause-shown : goal.returns-then-not-two-clause-shown
unfolding end_if_decided
returns-then-not-two-clause-shown t c g p h =
    let one = c.has_living-one.ensures _ _ h.within in
    let two = c.has_living-two.ensures _ _ h.within in
    past _ _ _ (rw (one, two) at c.if-neither.false) h
    (past _ _ _ (ap not (sym one ∙ c.if-not-one.false)) h
    (stops _ _ (if_so _ _ _ (ap not (sym two ∙ c.if-not-two.true)) (c.battle_ends-then-not-two.ensures.shown tt g p h))))

pub returns-then-late-clause-shown : goal.returns-then-late-clause-shown
unfolding end_if_decided
returns-then-late-clause-shown t c g p h =
    let one = c.has_living-one.ensures _ _ h.within in
    let two = c.has_living-two.ensures _ _ h.within in
    past _ _ _ (rw (one, two) at c.if-neither.false) h
    (past _ _ _ (ap not (sym one ∙ c.if-not-one.false)) h
    (past _ _ _ (ap not (sym two ∙ c.if-not-two.false)) h
    (if_so _ _ _ (sym (c.is_last_turn-late.ensures.stands _ _ h.within) ∙ c.if-late.true) (c.battle_ends-then-late.ensures.shown tt g p h))))

pub returns-clause-shown : goal.returns-clause-shown
unfolding end_if_decided stay
returns-clause-shown t c g p h =
    let one = c.has_living-one.ensures _ _ h.within in
    let two = c.has_living-two.ensures _ _ h.within in
    let late = sym (c.is_last_turn-late.ensures.stands _ _ h.within) ∙ c.if-late.false in (
      passed _ _ _ p (rw (one, two) at c.if-neither.false) h.ends
          ∙ passed _ _ _ p (ap not (sym one ∙ c.if-not-one.false)) h.ends
          ∙ passed _ _ _ p (ap not (sym two ∙ c.if-not-two.false)) h.ends
          ∙ choose-false _ _ _ p late,
      h,
      turn_left _ _ late,
    )
