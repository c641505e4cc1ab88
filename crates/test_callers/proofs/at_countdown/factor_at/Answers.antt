use Rattle.std.proofs.Common.{Bool, Option, Some, ap, false, true, ℕ, ◌+◌, ◌≡◌}
use Rattle.gen1_rolls.specs.Steady.{stream_of}
use Rattle.gen1_rolls.specs.Streams.{byte_at, first, first_within}
use Rattle.gen1_machine.specs.Damage.{is_factor}
use Rattle.gen1_rolls.proofs.Standing.{stands_at_itself}
use Rattle.test_callers.specs.Countdown.{countdown}
use Rattle.test_callers.proofs.Operations.{first_byte, own}
use Rattle.test_callers.proofs.at_countdown.factor_at.Goals as goal

-- A number that is a factor is the first of its countdown.
at_once : (n : ℕ) → is_factor n ≡ true → first (stream_of countdown n) 0 is_factor ≡ Some 0
unfolding first first_within byte_at
at_once n e =
    ap (λ (b : Bool). elim b as (λ _. Option ℕ) [ true ↦ Some 0 | false ↦ first_within 999 (stream_of countdown n) (0 + 1) is_factor ]) e

pub returns-clause-kept : goal.returns-clause-kept
returns-clause-kept c few = (c.factor_by.ensures.kept few (own c.new.result) 0 (stands_at_itself countdown c.new.result)).0

pub returns-clause-drawn : goal.returns-clause-drawn
returns-clause-drawn c many e =
    let n = c.new.result in
    let h = c.factor_by.ensures.drawn many (own n) 0 0 (stands_at_itself countdown n) (rw c.new.ensures.start (at_once c.args.number e)) in
    rw (first_byte n, c.new.ensures.start) at h.0
