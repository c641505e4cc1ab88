use Rattle.std.proofs.Common.{arith}
use Rattle.gen1_tables.proofs.Named.{types_of-at}
use Rattle.gen1_tables.proofs.species.Species.types.Goals as goal

pub returns : goal.returns
returns c = rw (← c.self.view_is) (types_of-at c.self.inside.number _ (omega arith) (omega arith))
