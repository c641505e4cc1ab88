use Rattle.gen1_player.proofs.Fairness.{fair}
use Rattle.gen1_player.proofs.laws.fair.Goals as goal

pub returns : goal.returns
returns c = fair
