use Rattle.std.proofs.Common.{◌∙◌, ap, arith}
use Rattle.gen1_rolls.specs.Steady.{Ring, ring_of}
use Rattle.gen1_rolls.specs.Streams.{Link}
use Rattle.gen1_rolls.proofs.Rings.{ring-stands}
use Rattle.test_callers.proofs.draws.index_after.Goals as goal

pub returns : goal.returns
returns c m e =
    let seed = c.args.seed in
    let a = c.draw.ensures.drawn (record { source = record { origin = ring_of seed; stream = Link seed }; agrees = tt }) 0 c.new-random.ensures.stands in
    let b = c.count.ensures (record { source = record { origin = ring_of seed; stream = Link seed }; agrees = tt }) 1 a.stands in
    c.index.ensures.value ∙ ap (λ (ring : Ring). ring.index) (ring-stands (rw e at b).1 (omega arith))
