use Rattle.std.proofs.Common.{◌∙◌}
use Rattle.gen1_rolls.proofs.Standing.{stands_at_itself}
use Rattle.test_callers.specs.Countdown.{countdown}
use Rattle.test_callers.proofs.Operations.{first_byte, own}
use Rattle.test_callers.proofs.at_countdown.gate_at.Goals as goal

pub returns : goal.returns
returns c g f w free paralysed =
    let x = c.gate_by.ensures.paralysed g f w free paralysed (own c.new.result) 0 (stands_at_itself countdown c.new.result) in
    c.stops.ensures ∙ (rw (first_byte c.new.result, c.new.ensures.start) at x.is)
