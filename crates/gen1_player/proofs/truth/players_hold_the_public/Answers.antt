use Rattle.gen1_machine.specs.State.{first_state}
use Rattle.gen1_machine.specs.Step.{run}
use Rattle.gen1_player.proofs.Members.{all-tellable}
use Rattle.gen1_player.proofs.ToldPublic.{holds}
use Rattle.gen1_player.proofs.truth.players_hold_the_public.Goals as goal

pub returns : goal.returns
returns c = λ s pixels t one two seed pairs a b. holds s pixels one two (run (first_state t one two seed) pairs) (all-tellable t one two seed pairs a b)
