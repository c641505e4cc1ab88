use Rattle.gen1_rolls.proofs.First.{first-finds, first-within}
use Rattle.gen1_machine.proofs.laws.first_is_least.Goals as goal

pub returns : goal.returns
returns c s n test m found = (first-finds s n test m found, first-within s n test m found)
