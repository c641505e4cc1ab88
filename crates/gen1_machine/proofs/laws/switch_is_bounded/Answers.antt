use Rattle.gen1_machine.proofs.TurnCosts.{switch_is_bounded}
use Rattle.gen1_machine.proofs.laws.switch_is_bounded.Goals as goal

pub returns : goal.returns
returns c = switch_is_bounded
