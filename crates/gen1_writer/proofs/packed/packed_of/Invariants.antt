use Rattle.std.proofs.Common.{length, map, take, ◌*◌, ◌≡◌, ◌≤◌}
use Rattle.std.specs.List.{join_with_byte}
use Rattle.gen1_writer.specs.Export.{packed_member}
use Rattle.gen1_writer.proofs.packed.packed_of.Given as goal

abbrev pub invariant-loop-index : goal.invariant-loop-index
invariant-loop-index l = (l.text.items ≡ join_with_byte 93 (map packed_member (take l.index l.specs))) × (length l.text.items ≤ 133 * l.index)
