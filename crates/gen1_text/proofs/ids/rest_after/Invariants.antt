use Rattle.std.proofs.Common.{◌≡◌, length}
use Rattle.gen1_text.specs.Ids.{id_of}
use Rattle.gen1_text.specs.MemberLines.{text_after}
use Rattle.gen1_text.proofs.ids.rest_after.Given as goal

abbrev pub invariant-loop-letter : goal.invariant-loop-letter
invariant-loop-letter l = text_after (id_of l.words) (id_of l.texts) ≡ text_after (id_of l.word) (id_of l.text)

abbrev pub decreases-loop-letter : goal.decreases-loop-letter
decreases-loop-letter l = length (id_of l.words)
