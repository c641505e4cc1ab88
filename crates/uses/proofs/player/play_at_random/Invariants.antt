use Rattle.gen1_machine.specs.State.{State}
use Rattle.gen1_layout.specs.Shows.{Stands}
use Rattle.gen1_engine.proofs.Making.{Accepts}
use Rattle.uses.proofs.player.play_at_random.Given as goal

abbrev pub invariant-updates : goal.invariant-updates
invariant-updates g l = (s : State) → Stands l.initial.battle s → Accepts s l.counter l.battle
