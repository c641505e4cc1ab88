use Rattle.std.proofs.Common.{arith}
use Rattle.gen1_rolls.specs.Streams.{passes}
use Rattle.gen1_outcomes.proofs.Sets.{gets_more}
use Rattle.gen1_outcomes.proofs.byte_set.ByteSet.each_that_passes.Goals as goal

pub bytes-init : goal.bytes-init
bytes-init c = record { below = λ x small less. absurd (omega arith); above = λ x small more. c.none-set.ensures x small }

pub bytes-preserved : goal.bytes-preserved
bytes-preserved c =
    gets_more (passes c.args.test) c.bytes.number c.bytes.set c.insert_if.new.self _ c.bytes.invariant (omega arith)
    c.passes.ensures c.insert_if.ensures.here c.insert_if.ensures.others

pub returns : goal.returns
returns c b lt = c.bytes.invariant.below b lt (omega arith)
