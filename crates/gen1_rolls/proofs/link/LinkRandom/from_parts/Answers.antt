use Rattle.std.proofs.Common.{arith}
use Rattle.gen1_rolls.proofs.Rings.{first_round-stands}
use Rattle.gen1_rolls.proofs.link.LinkRandom.from_parts.Goals as goal

pub returns-then-index-lt9-clause-stands : goal.returns-then-index-lt9-clause-stands
returns-then-index-lt9-clause-stands c = first_round-stands c.args.index c.args.numbers (omega arith) c.if-index-lt9.true
