use Rattle.std.proofs.Common.{arith}
use Rattle.gen1_tables.proofs.Named.{accuracy-at, move_row-at, pp-le}
use Rattle.gen1_tables.proofs.moves.MoveId.row.Goals as goal

pub returns-clause-value : goal.returns-clause-value
returns-clause-value c = rw (← c.self.view_is) (move_row-at c.self.inside.number _ (omega arith) (omega arith))

pub returns-clause-accuracy : goal.returns-clause-accuracy
returns-clause-accuracy c = rw (← c.self.view_is) (accuracy-at c.self.inside.number _ (omega arith) (omega arith))

pub returns-clause-pp : goal.returns-clause-pp
returns-clause-pp c = pp-le c.self.inside.number _ (omega arith) (omega arith)
