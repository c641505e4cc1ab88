use Rattle.std.proofs.Common.{ℕ, subst}
use Rattle.gen1_rolls.specs.Steady.{stream_of}
use Rattle.gen1_rolls.specs.Streams.{IsStream}
use Rattle.test_callers.specs.Countdown.{countdown}
use Rattle.test_callers.proofs.countdown.CountdownSteady.next_byte.Goals as goal

pub returns-clause-stream : goal.returns-clause-stream
returns-clause-stream c = subst (λ (n : ℕ). IsStream (stream_of countdown n)) c.self.view_is c.step-self-inside.ensures.stream
