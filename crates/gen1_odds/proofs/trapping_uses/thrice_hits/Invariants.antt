-- The ways of the damages so far.
use Rattle.std.proofs.Common.{take, ◌*◌, ◌-◌, ◌≡◌, ◌≤◌}
use Rattle.std.specs.List.{sum_by}
use Rattle.gen1_odds.specs.KnockOut.{again, third_trapping}
use Rattle.gen1_odds.proofs.trapping_uses.thrice_hits.Given as goal

abbrev pub invariant-loop-damage : goal.invariant-loop-damage
invariant-loop-damage l =
    (l.ways ≡ sum_by (λ damage. 20447232 * third_trapping l.odds l.most l.between.after_second damage (again l.most l.between.after_first damage (l.need - damage))) (take l.damage-index l.list))
    × (l.ways ≤ 3344714371694592 * l.damage-index)
