use Rattle.gen1_machine.proofs.TurnCosts.{turn_is_bounded}
use Rattle.gen1_machine.proofs.laws.turn_is_bounded.Goals as goal

pub returns : goal.returns
returns c = turn_is_bounded
