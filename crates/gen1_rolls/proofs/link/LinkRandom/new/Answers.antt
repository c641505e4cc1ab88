use Rattle.std.proofs.Common.{arith}
use Rattle.gen1_rolls.proofs.Rings.{first_round-stands}
use Rattle.gen1_rolls.proofs.link.LinkRandom.new.Goals as goal

pub returns-clause-stands : goal.returns-clause-stands
returns-clause-stands c = first_round-stands 0 c.args.seed (omega arith) (omega arith)
