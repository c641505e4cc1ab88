use Rattle.gen1_states.proofs.BattlesPass.{tests_pass}
use Rattle.gen1_states.proofs.PassingStates.{battle_of}
use Rattle.gen1_states.proofs.laws.tested_states_are_battles.Goals as goal

pub returns : goal.returns
returns c b plain fit = (battle_of b plain fit, tests_pass b plain fit)
