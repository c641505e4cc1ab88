use Rattle.gen1_layout.proofs.Words.{if_not, if_so, put, seeing}
use Rattle.gen1_machine.specs.State.{with_requests}
use Rattle.gen1_machine.specs.Falls.{ask_for_switches, switch_if}
use Rattle.gen1_machine.specs.declared.side.Side.TheVariants.{One, Two}
use Rattle.gen1_machine.specs.Progress.{has_fallen}
use Rattle.gen1_switching.proofs.falls.ask_next.Goals as goal

pub returns-then-some-clause-shown : goal.returns-then-some-clause-shown
unfolding ask_for_switches
returns-then-some-clause-shown t c g p left h =
    let one = c.has_fallen-one.ensures.stands _ _ h.within in
    let two = c.has_fallen-two.ensures.stands _ _ h.within in
    let w = rw (c.switch_if.ensures, c.switch_if-then-some.ensures) at (c.put_requests.ensures.stands _ _ h.within) in
    if_so _ _ _ (rw (one, two) at c.if-some.true)
    (seeing (has_fallen One) _ one (seeing (has_fallen Two) _ two (put h (with_requests (switch_if c.has_fallen-one.result) (switch_if c.has_fallen-two.result)) w)))

pub returns-else-some-clause-shown : goal.returns-else-some-clause-shown
returns-else-some-clause-shown t c g p left h =
    let one = c.has_fallen-one.ensures.stands _ _ h.within in
    let two = c.has_fallen-two.ensures.stands _ _ h.within in
    if_not _ _ _ (rw (one, two) at c.if-some.false) (c.ask_for_moves.ensures.shown g p left h)
