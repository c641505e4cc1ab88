use Rattle.std.proofs.Common.{◌≡◌, length}
use Rattle.gen1_text.specs.Ids.{id_of}
use Rattle.gen1_text.proofs.ids.first_letter.Given as goal

abbrev pub invariant-loop-first : goal.invariant-loop-first
invariant-loop-first l = id_of l.rest ≡ id_of l.text

abbrev pub decreases-loop-first : goal.decreases-loop-first
decreases-loop-first l = length l.rest
