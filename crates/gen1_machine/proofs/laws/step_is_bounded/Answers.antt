use Rattle.gen1_machine.proofs.TurnCosts.{step_is_bounded}
use Rattle.gen1_machine.proofs.laws.step_is_bounded.Goals as goal

pub returns : goal.returns
returns c = step_is_bounded
