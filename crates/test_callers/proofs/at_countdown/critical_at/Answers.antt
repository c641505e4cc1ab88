use Rattle.gen1_rolls.proofs.Standing.{stands_at_itself}
use Rattle.test_callers.specs.Countdown.{countdown}
use Rattle.test_callers.proofs.Operations.{first_byte, own}
use Rattle.test_callers.proofs.at_countdown.critical_at.Goals as goal

pub returns : goal.returns
returns c g f w =
    let x = c.critical_by.ensures g f w (own c.new.result) 0 (stands_at_itself countdown c.new.result) in
    rw (first_byte c.new.result, c.new.ensures.start) at x.is
