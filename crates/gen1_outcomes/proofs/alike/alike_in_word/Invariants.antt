use Rattle.gen1_outcomes.proofs.Sets.{Keeps}
use Rattle.gen1_outcomes.proofs.alike.alike_in_word.Given as goal

abbrev pub invariant-bits : goal.invariant-bits
invariant-bits l = Keeps l.damage_classes l.look l.byte l.base l.word l.place l.kept
