use Rattle.gen1_states.proofs.ThereAndBack.{comes_back, goes_back}
use Rattle.gen1_states.proofs.laws.plain_states_come_back.Goals as goal

pub returns-clause-battle : goal.returns-clause-battle
returns-clause-battle c = goes_back

pub returns-clause-state : goal.returns-clause-state
returns-clause-state c = comes_back
