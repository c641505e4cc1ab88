use Rattle.std.proofs.Common.{ℕ, subst}
use Rattle.gen1_rolls.specs.Steady.{stream_of, sweep}
use Rattle.gen1_rolls.specs.Streams.{IsStream}
use Rattle.gen1_rolls.proofs.link.SweepSteady.next_byte.Goals as goal

pub returns-clause-stream : goal.returns-clause-stream
returns-clause-stream c = subst (λ (n : ℕ). IsStream (stream_of sweep n)) c.self.view_is c.step-self-inside.ensures.stream
