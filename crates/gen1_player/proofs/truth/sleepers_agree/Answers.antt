use Rattle.gen1_player.proofs.Sleeping.{sleepers_agree}
use Rattle.gen1_player.proofs.truth.sleepers_agree.Goals as goal

pub returns : goal.returns
returns c = sleepers_agree
