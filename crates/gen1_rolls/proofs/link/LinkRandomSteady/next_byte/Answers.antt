use Rattle.std.proofs.Common.{subst}
use Rattle.gen1_rolls.specs.Steady.{stream_of, Ring, link}
use Rattle.gen1_rolls.specs.Streams.{IsStream}
use Rattle.gen1_rolls.proofs.link.LinkRandomSteady.next_byte.Goals as goal

pub returns-then-self-lt8-clause-stream : goal.returns-then-self-lt8-clause-stream
returns-then-self-lt8-clause-stream c =
    subst (λ (ring : Ring). IsStream (stream_of link ring)) c.self.view_is c.number_at-drawn.ensures.stream

pub returns-else-self-lt8-clause-stream : goal.returns-else-self-lt8-clause-stream
returns-else-self-lt8-clause-stream c =
    subst (λ (ring : Ring). IsStream (stream_of link ring)) c.self.view_is c.number_at-drawn.ensures.stream
