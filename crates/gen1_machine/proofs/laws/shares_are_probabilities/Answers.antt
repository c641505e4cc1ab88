use Rattle.gen1_machine.proofs.Shares.{shares_are_probabilities}
use Rattle.gen1_machine.proofs.laws.shares_are_probabilities.Goals as goal

pub returns : goal.returns
returns c = shares_are_probabilities
