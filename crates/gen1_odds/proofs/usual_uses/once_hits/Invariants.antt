-- The ways of the damages so far.
use Rattle.std.proofs.Common.{take, ◌*◌, ◌-◌, ◌≡◌, ◌≤◌}
use Rattle.std.specs.List.{sum_by}
use Rattle.gen1_odds.specs.KnockOut.{over}
use Rattle.gen1_odds.proofs.usual_uses.once_hits.Given as goal

abbrev pub invariant-loop-damage : goal.invariant-loop-damage
invariant-loop-damage l =
    (l.ways ≡ sum_by (λ damage. over (l.need - l.hits * damage)) (take l.damage-index l.list)) × (l.ways ≤ l.damage-index)
