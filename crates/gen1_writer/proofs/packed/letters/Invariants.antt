use Rattle.std.proofs.Common.{length, ◌+◌, ◌++◌, ◌≡◌, ◌≤◌}
use Rattle.gen1_text.specs.Ids.{id_of}
use Rattle.gen1_writer.proofs.packed.letters.Given as goal

abbrev pub invariant-loop-letter : goal.invariant-loop-letter
invariant-loop-letter l = (l.text.items ++ id_of l.rest ≡ id_of l.name) × (length l.text.items + length (id_of l.rest) ≤ 14)

abbrev pub decreases-loop-letter : goal.decreases-loop-letter
decreases-loop-letter l = length (id_of l.rest)
