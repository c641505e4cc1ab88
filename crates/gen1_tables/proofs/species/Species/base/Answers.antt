use Rattle.std.proofs.Common.{arith}
use Rattle.gen1_tables.proofs.Named.{base_of-at}
use Rattle.gen1_tables.proofs.species.Species.base.Goals as goal

pub returns : goal.returns
returns c = rw (← c.self.view_is) (base_of-at c.self.inside.number _ (omega arith) (omega arith))
