use Rattle.gen1_engine.proofs.Making.{calls_are_the_run}
use Rattle.gen1_engine.proofs.laws.calls_are_the_run.Goals as goal

pub returns : goal.returns
returns c = calls_are_the_run
