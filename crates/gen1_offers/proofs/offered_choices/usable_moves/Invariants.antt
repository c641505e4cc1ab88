-- The usable moves of the slots so far are there.
use Rattle.std.proofs.Common.{length, ◌-◌, ◌≡◌, ◌≤◌}
use Rattle.gen1_machine.specs.declared.side.Choice.TheVariants as choices
use Rattle.gen1_machine.specs.State.{Field}
use Rattle.gen1_layout.specs.Shows.{Setting, Within}
use Rattle.gen1_offers.proofs.OfferedSet.{collect, usable_at}
use Rattle.gen1_offers.proofs.offered_choices.usable_moves.Given as goal

abbrev pub invariant-loop-slot : goal.invariant-loop-slot
invariant-loop-slot l =
    (length l.choices.items ≤ l.slot - 1)
    × ((g : Setting) (f : Field) → Within g l.battle f → l.choices.items ≡ collect (usable_at l.side f) choices.Move 1 (l.slot - 1))
