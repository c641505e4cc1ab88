use Rattle.std.proofs.Common.{ap, arith, ◌∙◌}
use Rattle.gen1_tables.specs.Names.{move_name}
use Rattle.gen1_text.specs.Ids.{id_of}
use Rattle.gen1_writer.proofs.Parts.{join_next}
use Rattle.gen1_writer.proofs.packed.packed_moves.Goals as goal

pub add_next-requires : goal.add_next-requires
add_next-requires c = (omega arith, omega (arith, c.loop-index.invariant.1, c.as_slice.ensures.fits, c.loop-index-test.true, c.requires))

pub loop-index-preserved : goal.loop-index-preserved
loop-index-preserved c = (
  join_next 44 (λ chosen. id_of (move_name chosen.0)) c.args.moves.now c.loop-index.index c.index-moves-index.result c.loop-index.text.items c.as_slice.result.now _
      c.loop-index-test.true c.index-moves-index.is c.loop-index.invariant.0
      (c.as_slice.ensures.value ∙ c.letters.ensures ∙ ap id_of (c.as_bytes.ensures.value ∙ c.name.ensures))
      c.add_next.ensures.first c.add_next.ensures.later,
  omega (arith, c.loop-index.invariant.1, c.as_slice.ensures.fits, c.add_next.ensures.len),
)
