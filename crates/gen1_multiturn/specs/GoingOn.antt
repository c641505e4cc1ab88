-- A use of Bide, a charge, and a use of a trapping or thrashing move by a side of which nothing else is known
-- (docs/MECHANICS.md, "Going on", "Charging"). If the move is on already, it continues, as for a side that continues
-- its move. Otherwise it begins.
use Rattle.gen1_machine.specs.declared.side.Side.{Side}
use Rattle.gen1_machine.specs.declared.side.Pick.TheVariants.{Continue, Use}
use Rattle.gen1_machine.specs.Moves.{Move}
use Rattle.gen1_machine.specs.Progress.{Phase, ◌▸◌, choose, underway, Progress, active, given}
use Rattle.gen1_machine.specs.GoingOn.{thrash_about, trap, bide_goes_on, let_out}
use Rattle.gen1_machine.specs.Action.{see_if_going_on}
use Rattle.std.specs.Prelude.{None, Option, Some, if◌then◌else◌, is_some, nat_le, ℕ, length}
use Rattle.gen1_machine.specs.Conditions.{energy_with, Storing}
use Rattle.gen1_machine.specs.LateEffects.{start_bide}
use Rattle.gen1_machine.specs.declared.side.Pick.{Pick}
use Rattle.gen1_machine.specs.Charging.{charge}
use Rattle.gen1_machine.specs.Picks.{used_by}
use Rattle.gen1_machine.specs.State.{active_in, member_in}
use Rattle.gen1_machine.specs.Valid.{IsUsedMove}

abbrev pub use_trap : Side → Phase
use_trap s = see_if_going_on s Continue ▸ trap s

abbrev pub use_thrash : Side → Move → Phase
use_thrash s move = see_if_going_on s Continue ▸ thrash_about s move

-- A use of Bide: it begins, or it continues and may let out its energy (docs/MECHANICS.md, "Going on").

abbrev pub use_bide : Side → Phase
use_bide s = choose (λ p. is_some (underway s p).bide) (bide_goes_on s) (start_bide s)

-- The energy that is let out, given the last damage: in the last turn, twice what is stored then.
abbrev pub energy_let_out : ℕ → Option Storing → Option ℕ
energy_let_out damage None = None
energy_let_out damage (Some b) = if nat_le b.turns 1 then Some (let_out (energy_with damage b)) else None

-- A charge of the move that was picked last, for calls outside a turn (docs/MECHANICS.md, "Charging").

abbrev pub charge_picked : Side → Move → Phase
charge_picked s move = given (λ p. (active s p).picked_move) λ used. charge s (Use used) move

-- The move that a pick uses is one that the member has.
abbrev pub PicksMove : Side → Pick → Progress → Type 0
PicksMove s pick p = IsUsedMove (length (member_in s p.field).moves) (used_by pick (active_in s p.field).current_move)
