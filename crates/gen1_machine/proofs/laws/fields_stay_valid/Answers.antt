use Rattle.gen1_machine.proofs.ValidSteps.{fields_stay_valid}
use Rattle.gen1_machine.proofs.laws.fields_stay_valid.Goals as goal

pub returns : goal.returns
returns c = fields_stay_valid
