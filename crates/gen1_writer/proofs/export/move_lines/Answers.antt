use Rattle.std.proofs.Common.{List, ap, arith, length, ℕ, ◌++◌, ◌∙◌, ◌∷◌, []}
use Rattle.gen1_writer.proofs.Parts.{line_next, move_within}
use Rattle.gen1_writer.proofs.export.move_lines.Goals as goal

pub loop-id-preserved : goal.loop-id-preserved
loop-id-preserved c =
    let name = c.as_bytes.ensures.value ∙ c.name.ensures in
    let few = move_within c.loop-id-item.result.0 in
    let size = ap (λ (l : List ℕ). length l) name in (
      line_next c.loop-id.lines.items c.as_bytes.result.now c.add-in-loop-id-2.new.text.items _ c.args.moves.now c.loop-id.id-index c.loop-id-item.result c.loop-id-test.true
          c.loop-id-item.is name c.loop-id.invariant.0
          (c.add-in-loop-id-2.ensures.items
          ∙ ap (λ (l : List ℕ). l ++ 10 ∷ []) (c.add-in-loop-id.ensures.items ∙ ap (λ (l : List ℕ). l ++ c.as_bytes.result.now) c.add.ensures.items)),
      omega (arith, few, size, c.loop-id.invariant.1, c.add.ensures.len, c.add-in-loop-id.ensures.len, c.add-in-loop-id-2.ensures.len),
    )
