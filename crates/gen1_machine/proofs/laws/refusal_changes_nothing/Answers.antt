use Rattle.gen1_machine.proofs.Runs.{refusal_changes_nothing}
use Rattle.gen1_machine.proofs.laws.refusal_changes_nothing.Goals as goal

pub returns : goal.returns
returns c = refusal_changes_nothing
