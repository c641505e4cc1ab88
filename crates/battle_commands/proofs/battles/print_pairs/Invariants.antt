-- The lines of the pairs before a number were written.
use Rattle.std.proofs.Common.{◌≡◌}
use Rattle.gen1_machine.specs.Lines.{lines}
use Rattle.gen1_machine.specs.State.{State}
use Rattle.gen1_layout.specs.Shows.{Stands}
use Rattle.battle_commands.proofs.Standing.{Stood}
use Rattle.battle_commands.proofs.battles.print_pairs.Given as goal

abbrev pub invariant-loop-number : goal.invariant-loop-number
invariant-loop-number g l =
    (g.W.Sink.has_failed l.sink ≡ g.W.Sink.has_failed l.initial.sink)
    × ((s : State) → Stands l.initial.battle s → Stood lines s l.pairs l.number l.battle (g.W.Sink.contents l.initial.sink) (g.W.Sink.contents l.sink))
