-- That many pairs, drawn at random, were accepted.
use Rattle.std.proofs.Common.{◌≡◌}
use Rattle.gen1_machine.specs.declared.side.Side.TheVariants.{One, Two}
use Rattle.gen1_machine.specs.State.{State}
use Rattle.gen1_layout.specs.Shows.{Stands}
use Rattle.gen1_offers.specs.OfferedChoices.{IsInRange}
use Rattle.gen1_playouts.proofs.Playing.{Rounds}
use Rattle.gen1_playouts.proofs.playouts.run.Given as goal

abbrev pub invariant-updates : goal.invariant-updates
invariant-updates l =
    (l.bench_one.side ≡ One) × IsInRange l.bench_one × (l.bench_two.side ≡ Two) × IsInRange l.bench_two
    × ((s : State) → Stands l.initial.battle s
    → Rounds l.options.weights s l.initial.random.state l.counter l.battle l.random.state l.bench_one l.bench_two)
