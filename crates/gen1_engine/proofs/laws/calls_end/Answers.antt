use Rattle.gen1_engine.proofs.Making.{calls_end}
use Rattle.gen1_engine.proofs.laws.calls_end.Goals as goal

pub returns : goal.returns
returns c = calls_end
