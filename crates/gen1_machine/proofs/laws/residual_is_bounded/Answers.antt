use Rattle.gen1_machine.proofs.TurnCosts.{residual_is_bounded}
use Rattle.gen1_machine.proofs.laws.residual_is_bounded.Goals as goal

pub returns : goal.returns
returns c = residual_is_bounded
