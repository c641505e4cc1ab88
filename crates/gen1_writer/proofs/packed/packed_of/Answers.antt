use Rattle.std.proofs.Common.{arith, ◌∙◌}
use Rattle.gen1_writer.specs.Export.{packed_member}
use Rattle.gen1_writer.proofs.Parts.{join_next}
use Rattle.gen1_writer.proofs.packed.packed_of.Goals as goal

pub loop-index-preserved : goal.loop-index-preserved
loop-index-preserved c = (
  join_next 93 packed_member c.args.specs.now c.loop-index.index c.index-specs-index.result c.loop-index.text.items c.as_slice.result.now _
      c.loop-index-test.true c.index-specs-index.is c.loop-index.invariant.0 (c.as_slice.ensures.value ∙ c.packed_member.ensures)
      c.add_next.ensures.first c.add_next.ensures.later,
  omega (arith, c.loop-index.invariant.1, c.as_slice.ensures.fits, c.add_next.ensures.len),
)
