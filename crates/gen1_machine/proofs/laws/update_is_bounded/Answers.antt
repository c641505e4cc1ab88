use Rattle.gen1_machine.proofs.TurnCosts.{update_is_bounded}
use Rattle.gen1_machine.proofs.laws.update_is_bounded.Goals as goal

pub returns : goal.returns
returns c = update_is_bounded
