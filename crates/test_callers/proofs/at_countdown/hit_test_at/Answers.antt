use Rattle.gen1_rolls.proofs.Standing.{stands_at_itself}
use Rattle.test_callers.specs.Countdown.{countdown}
use Rattle.test_callers.proofs.Operations.{first_byte, own}
use Rattle.test_callers.proofs.at_countdown.hit_test_at.Goals as goal

pub returns : goal.returns
returns c g f w unsettled =
    let x = c.hit_test_by.ensures g f w unsettled (own c.new.result) 0 (stands_at_itself countdown c.new.result) in
    rw (first_byte c.new.result, c.new.ensures.start) at x.is
