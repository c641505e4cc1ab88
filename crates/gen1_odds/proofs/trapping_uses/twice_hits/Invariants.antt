-- The ways of the damages so far.
use Rattle.std.proofs.Common.{take, ◌*◌, ◌-◌, ◌≡◌, ◌≤◌}
use Rattle.std.specs.List.{sum_by}
use Rattle.gen1_odds.specs.KnockOut.{again, over}
use Rattle.gen1_odds.proofs.trapping_uses.twice_hits.Given as goal

abbrev pub invariant-loop-damage : goal.invariant-loop-damage
invariant-loop-damage l =
    (l.ways ≡ sum_by (λ damage. 20447232 * over (again l.most l.change damage (l.need - damage))) (take l.damage-index l.list))
    × (l.ways ≤ 20447232 * l.damage-index)
