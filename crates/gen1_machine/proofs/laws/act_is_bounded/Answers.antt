use Rattle.gen1_machine.proofs.TurnCosts.{act_is_bounded}
use Rattle.gen1_machine.proofs.laws.act_is_bounded.Goals as goal

pub returns : goal.returns
returns c = act_is_bounded
