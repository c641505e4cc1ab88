use Rattle.std.proofs.Common.{◌≡◌, length}
use Rattle.std.specs.Prelude.{bytes_eq}
use Rattle.gen1_text.specs.Ids.{id_of}
use Rattle.gen1_text.proofs.ids.has_same_id.Given as goal

abbrev pub invariant-loop-letter : goal.invariant-loop-letter
invariant-loop-letter l = bytes_eq (id_of l.names) (id_of l.texts) ≡ bytes_eq (id_of l.name) (id_of l.text)

abbrev pub decreases-loop-letter : goal.decreases-loop-letter
decreases-loop-letter l = length (id_of l.names)
