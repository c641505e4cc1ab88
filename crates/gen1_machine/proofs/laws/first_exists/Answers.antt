use Rattle.gen1_rolls.proofs.First.{first-exists}
use Rattle.gen1_machine.proofs.laws.first_exists.Goals as goal

pub returns : goal.returns
returns c = first-exists
