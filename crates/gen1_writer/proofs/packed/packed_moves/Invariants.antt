use Rattle.std.proofs.Common.{length, map, take, ◌*◌, ◌≡◌, ◌≤◌}
use Rattle.std.specs.List.{join_with_byte}
use Rattle.gen1_tables.specs.Names.{move_name}
use Rattle.gen1_text.specs.Ids.{id_of}
use Rattle.gen1_writer.proofs.packed.packed_moves.Given as goal

abbrev pub invariant-loop-index : goal.invariant-loop-index
invariant-loop-index l =
    (l.text.items ≡ join_with_byte 44 (map (λ chosen. id_of (move_name chosen.0)) (take l.index l.moves))) × (length l.text.items ≤ 15 * l.index)
