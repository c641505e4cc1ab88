use Rattle.gen1_rolls.specs.Streams.{passes}
use Rattle.gen1_outcomes.proofs.Sets.{Gets}
use Rattle.gen1_outcomes.proofs.byte_set.ByteSet.each_that_passes.Given as goal

abbrev pub invariant-bytes : goal.invariant-bytes
invariant-bytes l = Gets (passes l.test) l.number l.set
