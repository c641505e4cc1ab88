use Rattle.std.proofs.Common.{arith}
use Rattle.gen1_rolls.proofs.Rings.{first_round-stream}
use Rattle.gen1_rolls.proofs.link.number_at.Goals as goal

pub returns-clause-stream : goal.returns-clause-stream
returns-clause-stream c = first_round-stream c.args.index c.args.numbers.now (c.requires.ten) c.requires.below (λ j _. omega (arith, c.type_inv.numbers j))
