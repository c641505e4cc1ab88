use Rattle.gen1_machine.proofs.TurnCosts.{order_is_bounded}
use Rattle.gen1_machine.proofs.laws.order_is_bounded.Goals as goal

pub returns : goal.returns
returns c = order_is_bounded
