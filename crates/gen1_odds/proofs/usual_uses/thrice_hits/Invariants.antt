-- The ways of the damages so far.
use Rattle.std.proofs.Common.{take, ◌*◌, ◌-◌, ◌≡◌, ◌≤◌}
use Rattle.std.specs.List.{sum_by}
use Rattle.gen1_odds.specs.KnockOut.{after_change, after_use, two_uses}
use Rattle.gen1_odds.proofs.usual_uses.thrice_hits.Given as goal

abbrev pub invariant-loop-damage : goal.invariant-loop-damage
invariant-loop-damage l =
    (l.ways ≡ sum_by (λ damage. after_change l.uses.most l.between.after_first (two_uses (after_use l.uses) l.uses.most l.between.after_second) (l.need - l.hits * damage)) (take l.damage-index l.list))
    × (l.ways ≤ 418089296461824 * l.damage-index)
