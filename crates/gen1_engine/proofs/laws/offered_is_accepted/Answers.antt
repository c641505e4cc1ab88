use Rattle.gen1_engine.proofs.Making.{offered_is_accepted}
use Rattle.gen1_engine.proofs.laws.offered_is_accepted.Goals as goal

pub returns : goal.returns
returns c = offered_is_accepted
