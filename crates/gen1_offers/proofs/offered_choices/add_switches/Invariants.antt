-- The living members of the places so far are there, without the one that is out.
use Rattle.std.proofs.Common.{length, ◌++◌, ◌+◌, ◌-◌, ◌<◌, ◌≡◌, ◌≤◌}
use Rattle.gen1_machine.specs.declared.side.Choice.TheVariants as choices
use Rattle.gen1_machine.specs.State.{Field}
use Rattle.gen1_layout.specs.Shows.{Setting, Within}
use Rattle.gen1_offers.proofs.OfferedSet.{collect, comes_out}
use Rattle.gen1_offers.proofs.offered_choices.add_switches.Given as goal

abbrev pub invariant-loop-place : goal.invariant-loop-place
invariant-loop-place l =
    (l.place ≤ l.out → length l.choices.items ≤ length l.initial.choices.items + (l.place - 1))
    × (l.out < l.place → length l.choices.items + 1 ≤ length l.initial.choices.items + (l.place - 1))
    × (length l.initial.choices.items ≤ 4)
    × (1 ≤ l.out)
    × ((g : Setting) (f : Field) → Within g l.battle f
    → l.choices.items ≡ l.initial.choices.items ++ collect (comes_out l.side f l.out) choices.Switch 1 (l.place - 1))
