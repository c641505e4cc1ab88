-- What a side's choice of a move becomes as the turn begins (docs/MECHANICS.md, "Picks").
use Rattle.std.specs.Prelude.{Bool, List, None, Option, Some, false, if◌then◌else◌, is_some, suc, true, zero, ℕ, ◌==◌, ◌||◌}
use Rattle.gen1_stats.specs.declared.member.KnownMove.{KnownMove}
use Rattle.gen1_machine.specs.declared.side.Side.{Side}
use Rattle.gen1_machine.specs.declared.side.UsedMove.{UsedMove}
use Rattle.gen1_machine.specs.declared.side.UsedMove.TheVariants.{Nothing, Slot, Struggle}
use Rattle.gen1_machine.specs.declared.side.Pick.{Pick}
use Rattle.gen1_machine.specs.declared.side.Pick.TheVariants.{Use, Continue, Idle, Held}
use Rattle.gen1_machine.specs.declared.side.DisabledSlot.{DisabledSlot}
use Rattle.gen1_tables.specs.Moves.{struggle}
use Rattle.gen1_stats.specs.Members.{sleeps_or_freezes}
use Rattle.gen1_machine.specs.Sides.{other}
use Rattle.gen1_machine.specs.Conditions.{Underway}
use Rattle.gen1_machine.specs.State.{active_in, conditions_in, underway_in, member_in, status_in, known_in, Field}

-- A member must continue its current move in these cases.
abbrev pub must_continue : Underway → Bool
must_continue u = u.recharge || u.rage || is_some u.thrash || u.charging || is_some u.bide || is_some u.trapping

-- Slot 0 isn't a slot. Its meaning depends on the conditions and the status.
abbrev pub pick_in : ℕ → Side → Field → Pick
pick_in (suc k) s f = Use (Slot (suc k))
pick_in zero s f =
    if must_continue (underway_in s f) then Continue
    else if sleeps_or_freezes (status_in s f) then Idle
    else if is_some (underway_in (other s) f).trapping then Held
    else Use Struggle

-- The picked move after a pick. A side that is held has none. A side that continues or is idle keeps the older one.
abbrev pub picked_after : Pick → UsedMove → UsedMove
picked_after (Use used) old = used
picked_after Held old = Nothing
picked_after _ old = old

-- The move that a pick uses, given the current move.
abbrev pub used_by : Pick → UsedMove → UsedMove
used_by (Use used) current_move = used
used_by _ current_move = current_move

-- The number of a used move, or 0 for none.
abbrev pub number_in : UsedMove → List KnownMove → ℕ
number_in Nothing moves = 0
number_in Struggle moves = struggle
number_in (Slot k) moves = (known_in k moves).id

-- The move of a side's pick.
abbrev pub picked_move_in : Side → Field → ℕ
picked_move_in s f = number_in (active_in s f).picked_move (member_in s f).moves

abbrev pub is_slot : ℕ → UsedMove → Bool
is_slot k (Slot j) = j == k
is_slot k _ = false

-- Whether a disabled slot bars a move.
abbrev pub bars : Option DisabledSlot → UsedMove → Bool
bars None used = false
bars (Some d) used = is_slot d.slot used

-- Struggle is in no slot, so it can't be disabled. An idle side uses no move.
abbrev pub is_disabled_in : Side → Pick → Field → Bool
is_disabled_in s Idle f = false
is_disabled_in s pick f = bars (conditions_in s f).disabled (used_by pick (active_in s f).current_move)

abbrev pub is_idle : Pick → Bool
is_idle Idle = true
is_idle _ = false

abbrev pub is_use : Pick → Bool
is_use (Use used) = true
is_use _ = false
