-- The sum and the copies that are still to come are all copies.
use Rattle.std.proofs.Common.{drop, length, map, ℕ, ◌*◌, ◌+◌, ◌≡◌, ◌≤◌}
use Rattle.gen1_machine.specs.declared.side.Choice.{Choice}
use Rattle.gen1_offers.specs.OfferedChoices.{all_choices, chosen_by}
use Rattle.gen1_playouts.specs.Playouts.{repeated}
use Rattle.gen1_playouts.proofs.weights.sum_of.Given as goal

abbrev pub invariant-loop-digit : goal.invariant-loop-digit
invariant-loop-digit l =
    (l.sum ≤ 255 * l.digit)
    × ((weight : Choice → ℕ) → l.weights ≡ map weight all_choices
    → l.sum + length (repeated weight (chosen_by l.rest (drop l.digit all_choices))) ≡ length (repeated weight (chosen_by l.fn.mask all_choices)))
