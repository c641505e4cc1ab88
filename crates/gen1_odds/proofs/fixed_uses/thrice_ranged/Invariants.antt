-- The ways of the damages so far.
use Rattle.std.proofs.Common.{◌*◌, ◌-◌, ◌≡◌, ◌≤◌}
use Rattle.std.specs.List.{range_with_len, sum_by}
use Rattle.gen1_odds.specs.KnockOut.{after_change, after_fixed_use, taken, two_uses}
use Rattle.gen1_odds.proofs.fixed_uses.thrice_ranged.Given as goal

abbrev pub invariant-loop-step : goal.invariant-loop-step
invariant-loop-step l =
    (l.hit ≡ sum_by (λ damage. after_change l.uses.most l.between.after_first (two_uses (after_fixed_use l.uses) l.uses.most l.between.after_second) (l.need - taken l.uses.halves l.need damage)) (range_with_len l.uses.odds.least l.step))
    × (l.hit ≤ 281474976710656 * l.step)
