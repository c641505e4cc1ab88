use Rattle.gen1_player.proofs.Fairness.{fair_player}
use Rattle.gen1_player.proofs.laws.fair_player.Goals as goal

pub returns : goal.returns
returns c = fair_player
