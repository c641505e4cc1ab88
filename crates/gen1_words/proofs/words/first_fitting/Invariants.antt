use Rattle.std.proofs.Common.{filter, length, ◌≡◌}
use Rattle.gen1_layout.specs.Words.{Field, Setting, Within}
use Rattle.gen1_words.specs.ChoiceWords.{fits}
use Rattle.gen1_words.proofs.words.first_fitting.Given as goal

abbrev pub invariant-loop-choice : goal.invariant-loop-choice
invariant-loop-choice l =
    (g : Setting) (f : Field) → Within g l.battle f → filter (fits l.side f l.words) l.rest ≡ filter (fits l.side f l.words) l.choices

abbrev pub decreases-loop-choice : goal.decreases-loop-choice
decreases-loop-choice l = length l.rest
