-- The HP of the first places.
use Rattle.std.proofs.Common.{◌*◌, ◌≡◌, ◌≤◌}
use Rattle.gen1_stats.specs.Members.{Member}
use Rattle.gen1_machine.specs.State.{State, party}
use Rattle.gen1_layout.specs.Shows.{Stands}
use Rattle.gen1_playouts.specs.Playouts.{sum_in}
use Rattle.gen1_playouts.proofs.playouts.hp_left.Given as goal

abbrev pub invariant-loop-before : goal.invariant-loop-before
invariant-loop-before l =
    (l.sum ≤ 65535 * l.before)
    × ((s : State) → Stands l.battle s → l.sum ≡ sum_in (λ (m : Member). m.hp) l.before (party l.side s.field))
