-- The ways of the damages so far.
use Rattle.std.proofs.Common.{◌-◌, ◌≡◌, ◌≤◌}
use Rattle.std.specs.List.{range_with_len, sum_by}
use Rattle.gen1_odds.specs.KnockOut.{over, taken}
use Rattle.gen1_odds.proofs.fixed_uses.once_ranged.Given as goal

abbrev pub invariant-loop-step : goal.invariant-loop-step
invariant-loop-step l =
    (l.hit ≡ sum_by (λ damage. over (l.need - taken l.halves l.need damage)) (range_with_len l.odds.least l.step)) × (l.hit ≤ l.step)
