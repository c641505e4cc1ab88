-- That many playouts are counted.
use Rattle.std.proofs.Common.{◌≡◌}
use Rattle.gen1_machine.specs.State.{State}
use Rattle.gen1_layout.specs.Shows.{Stands}
use Rattle.gen1_playouts.specs.Playouts.{PlaysOut, tally, total}
use Rattle.gen1_playouts.proofs.playouts.playout.Given as goal

abbrev pub invariant-rounds : goal.invariant-rounds
invariant-rounds l =
    (total l.counts ≡ l.counter)
    × ((s : State) → Stands l.battle s → PlaysOut l.options s l.counter l.counts × (l.random.state ≡ (tally l.options s l.counter).random))
