-- Moves that charge for a turn before they strike (docs/MECHANICS.md, "Charging").
use Rattle.gen1_machine.specs.declared.side.Side.{Side}
use Rattle.gen1_machine.specs.declared.event.Event.TheVariants as events
use Rattle.gen1_machine.specs.declared.side.Pick.{Pick}
use Rattle.gen1_machine.specs.Conditions.{with_charging, without_charging, with_invulnerability, without_invulnerability}
use Rattle.gen1_machine.specs.State.{who_in, with_current_move}
use Rattle.gen1_tables.specs.Effects.{charges, hides}
use Rattle.gen1_machine.specs.Moves.{Move}
use Rattle.gen1_machine.specs.Progress.{Phase, ◌▸◌, choose, only, given, stop, note, on_active, on_conditions, active, underway}
use Rattle.gen1_machine.specs.Picks.{used_by}

-- The charging move becomes the current move.
unfoldable pub make_current : Side → Pick → Phase
make_current s pick = given (active s) λ a. on_active s (with_current_move (used_by pick a.current_move))

-- The first turn ends here. A user that flies up or digs in can't be hit until the second turn.
unfoldable pub begin_charge : Side → Pick → Move → Phase
begin_charge s pick move =
    make_current s pick ▸ on_conditions s with_charging
    ▸ only (hides move.effect) (on_conditions s with_invulnerability)
    ▸ note (λ f. events.Prepare (who_in s f) move.number) ▸ stop

-- The second turn strikes.
unfoldable pub end_charge : Side → Phase
end_charge s = on_conditions s without_charging ▸ on_conditions s without_invulnerability

unfoldable pub charge : Side → Pick → Move → Phase
charge s pick move =
    only (charges move.effect) (choose (λ p. (underway s p).charging) (end_charge s) (begin_charge s pick move))
