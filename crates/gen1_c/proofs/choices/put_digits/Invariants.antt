-- The choices of the digits so far are written.
use Rattle.std.proofs.Common.{List, drop, length, map, ℕ, ◌++◌, ◌≡◌, ◌≤◌}
use Rattle.gen1_machine.specs.declared.side.Choice.{Choice}
use Rattle.gen1_machine.specs.Choices.{byte_of_choice}
use Rattle.gen1_offers.specs.OfferedChoices.{all_choices, chosen_by}
use Rattle.gen1_c.specs.Battle.{IsWritten}
use Rattle.gen1_c.proofs.Writing.{SoFar}
use Rattle.gen1_c.proofs.choices.put_digits.Given as goal

abbrev pub invariant-loop-digit : goal.invariant-loop-digit
invariant-loop-digit l =
    (l.count ≤ 9)
    × ((base : List ℕ) (done : List Choice) → IsWritten (map byte_of_choice done) base l.initial.choices l.fn.before → length base ≡ 9
    → length (done ++ chosen_by l.fn.mask (drop l.fn.from all_choices)) ≤ 9
    → SoFar base done l.fn.mask l.fn.from l.rest l.digit l.choices l.count)
    × (l.fn.before ≤ l.count) × (drop l.count l.choices ≡ drop l.count l.initial.choices)
