-- What is looked for is at an index of the copies that are still to come.
use Rattle.std.proofs.Common.{drop, length, map, ℕ, ◌<◌, ◌≡◌, ◌≤◌}
use Rattle.gen1_machine.specs.declared.side.Choice.{Choice}
use Rattle.gen1_offers.specs.OfferedChoices.{all_choices, chosen_by}
use Rattle.gen1_playouts.specs.Playouts.{repeated}
use Rattle.gen1_playouts.proofs.Playing.{IsLeft}
use Rattle.gen1_playouts.proofs.weights.choice_by_weight.Given as goal

abbrev pub invariant-loop-digit : goal.invariant-loop-digit
invariant-loop-digit l =
    (l.place ≤ l.digit)
    × (chosen_by l.rest (drop l.digit all_choices) ≡ drop l.place (chosen_by l.fn.mask all_choices))
    × ((weight : Choice → ℕ) → l.weights ≡ map weight all_choices → l.fn.index < length (repeated weight (chosen_by l.fn.mask all_choices))
    → IsLeft weight (chosen_by l.fn.mask all_choices) l.fn.index l.rest l.digit l.left)
