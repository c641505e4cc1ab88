use Rattle.gen1_tables.specs.Names.{move_names}
use Rattle.gen1_text.proofs.TextLemmas.{NoneBefore}
use Rattle.gen1_text.proofs.ids.move_with_id.Given as goal

abbrev pub invariant-loop-number : goal.invariant-loop-number
invariant-loop-number l = NoneBefore move_names l.text l.number
