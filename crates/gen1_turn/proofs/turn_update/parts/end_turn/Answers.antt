use Rattle.gen1_layout.proofs.Words.{goes}
use Rattle.gen1_machine.specs.Turn.{end_turn}
use Rattle.gen1_turn.proofs.turn_update.parts.end_turn.Goals as goal

pub returns : goal.returns
unfolding end_turn
returns c = record { shown = λ events g p h. let a = c.end_spent_trapping.ensures.shown events _ _ h in goes _ _ a (c.end_spent_trapping-2.ensures.shown events _ _ a) }
