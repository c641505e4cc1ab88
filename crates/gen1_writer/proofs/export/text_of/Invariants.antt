use Rattle.std.proofs.Common.{length, map, take, ◌*◌, ◌≡◌, ◌≤◌}
use Rattle.std.specs.List.{join_with_byte}
use Rattle.gen1_writer.specs.Export.{block}
use Rattle.gen1_writer.proofs.export.text_of.Given as goal

abbrev pub invariant-loop-index : goal.invariant-loop-index
invariant-loop-index l = (l.text.items ≡ join_with_byte 10 (map block (take l.index l.specs))) × (length l.text.items ≤ 226 * l.index)
