-- The ways of the damages so far.
use Rattle.std.proofs.Common.{◌*◌, ◌-◌, ◌≡◌, ◌≤◌}
use Rattle.std.specs.List.{range_with_len, sum_by}
use Rattle.gen1_odds.specs.KnockOut.{after_change, after_fixed_use, over, taken}
use Rattle.gen1_odds.proofs.fixed_uses.twice_ranged.Given as goal

abbrev pub invariant-loop-step : goal.invariant-loop-step
invariant-loop-step l =
    (l.hit ≡ sum_by (λ damage. after_change l.uses.most l.change (after_fixed_use l.uses over) (l.need - taken l.uses.halves l.need damage)) (range_with_len l.uses.odds.least l.step))
    × (l.hit ≤ 16777216 * l.step)
