use Rattle.std.proofs.Common.{drop, length, map, ◌*◌, ◌++◌, ◌≡◌, ◌≤◌}
use Rattle.gen1_writer.specs.Export.{ended, move_line}
use Rattle.gen1_writer.proofs.export.move_lines.Given as goal

abbrev pub invariant-loop-id : goal.invariant-loop-id
invariant-loop-id l =
    (l.lines.items ++ ended (map move_line (drop l.id-index l.moves)) ≡ ended (map move_line l.moves)) × (length l.lines.items ≤ 17 * l.id-index)
