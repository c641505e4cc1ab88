use Rattle.gen1_rolls.proofs.Standing.{stands_at_itself}
use Rattle.gen1_rolls.proofs.laws.draws_a_stream.Goals as goal

pub returns-clause-stands : goal.returns-clause-stands
returns-clause-stands g c = stands_at_itself g.R.Steady.generator c.args.random.now
