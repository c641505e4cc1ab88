use Rattle.gen1_machine.proofs.TurnCosts.{end_is_bounded}
use Rattle.gen1_machine.proofs.laws.end_is_bounded.Goals as goal

pub returns : goal.returns
returns c = end_is_bounded
