-- Which draws let a member act, and which of them make its move hit or hold the foe (docs/MECHANICS.md, "Gate", "Hit test",
-- "Going on").
use Rattle.std.specs.Prelude.{Bool, List, None, Option, Some, false, if◌then◌else◌, is_some, nat_le, nat_lt, not, replicate, sum_by, true, ℕ, ◌&&◌, ◌*◌, ◌==◌, ◌||◌, ◌≡◌}
use Rattle.std.specs.List.{range_with_len}
use Rattle.gen1_tables.specs.Effects.{traps}
use Rattle.gen1_stats.specs.declared.member.KnownMove.{KnownMove}
use Rattle.gen1_stats.specs.Members.{is_paralysed, sleeps_or_freezes}
use Rattle.gen1_machine.specs.declared.side.DisabledSlot.{DisabledSlot}
use Rattle.gen1_machine.specs.declared.side.Pick.{Pick}
use Rattle.gen1_machine.specs.declared.side.Pick.TheVariants.{Continue, Use}
use Rattle.gen1_machine.specs.declared.side.UsedMove.{UsedMove}
use Rattle.gen1_machine.specs.declared.side.UsedMove.TheVariants.{Slot, Struggle}
use Rattle.gen1_machine.specs.declared.side.Side.{Side}
use Rattle.gen1_machine.specs.Action.{move_taken_in}
use Rattle.gen1_machine.specs.Damage.{before_types, numbers_in}
use Rattle.gen1_machine.specs.Moves.{Move}
use Rattle.gen1_machine.specs.Picks.{bars, is_idle, must_continue, used_by}
use Rattle.gen1_machine.specs.Rules.{Rules}
use Rattle.gen1_machine.specs.Sides.{other}
use Rattle.gen1_machine.specs.State.{active_in, conditions_in, has_fallen_in, known_in, member_in, status_in, underway_in, Field}
use Rattle.gen1_status.specs.Gate.{is_held}
use Rattle.gen1_odds.specs.declared.acting.ActionOdds.{ActionOdds}
use Rattle.gen1_odds.specs.declared.reasons.Reason.{Reason}
use Rattle.gen1_odds.specs.declared.reasons.Reason.TheVariants as reasons
use Rattle.gen1_odds.specs.KnockOut.{mixed}
use Rattle.gen1_odds.specs.Odds.{critical_draws, deals_usual, draws_by, flag, hit_draws, how_many, side_effect_draws}
use Rattle.gen1_odds.specs.Trials.{hurts_in, charges_first, traps_on_in}

-- The pick of a move

-- The slot that holds a move. Like Struggle, a move that the member doesn't know is in no slot.
abbrev pub slot_of : ℕ → List KnownMove → UsedMove
slot_of number moves =
    if (known_in 1 moves).id == number then Slot 1
    else if (known_in 2 moves).id == number then Slot 2
    else if (known_in 3 moves).id == number then Slot 3
    else if (known_in 4 moves).id == number then Slot 4
    else Struggle

abbrev pub pick_of : Side → Move → Field → Pick
pick_of s move f =
    if must_continue (underway_in s f) then Continue else Use (slot_of move.number (member_in s f).moves)

-- Whether the member has to continue another move.
abbrev pub is_bound : Side → Move → Field → Bool
is_bound s move f = must_continue (underway_in s f) && not ((move_taken_in s Continue f).number == move.number)

-- The gate of a turn that begins, when any flinch is over

-- What rules out any action.
abbrev pub is_out_of_action : Side → Field → Bool
is_out_of_action s f =
    sleeps_or_freezes (status_in s f) || is_some (underway_in (other s) f).trapping || (underway_in s f).recharge

-- Disable ends with its last turn, before the move is tested.
abbrev pub still_disabled : Option DisabledSlot → Option DisabledSlot
still_disabled None = None
still_disabled (Some d) = if nat_le d.turns 1 then None else Some d

abbrev pub is_barred : Side → Pick → Field → Bool
is_barred s pick f = bars (still_disabled (conditions_in s f).disabled) (used_by pick (active_in s f).current_move)

-- What keeps a member from acting whatever is drawn.
abbrev pub is_kept : Side → Pick → Field → Bool
is_kept s pick f = is_held pick || is_out_of_action s f || is_barred s pick f || is_idle pick

-- Confusion ends with its last turn, without a draw.
abbrev pub still_confused : Option ℕ → Bool
still_confused None = false
still_confused (Some turns) = not (nat_le turns 1)

-- Whether the gate stops a member, by a draw of its confusion and one of its paralysis.
abbrev pub is_stopped : Side → Pick → Field → ℕ → ℕ → Bool
is_stopped s pick f confusion paralysis =
    is_held pick || is_out_of_action s f
    || (still_confused (conditions_in s f).confused && nat_le 128 confusion)
    || is_barred s pick f
    || (is_paralysed (status_in s f) && nat_lt paralysis 63)
    || is_idle pick

abbrev pub acts_by : Side → Pick → Field → ℕ → ℕ → Bool
acts_by s pick f confusion paralysis = not (is_stopped s pick f confusion paralysis)

-- How many of the 65,536 possible pairs of draws pass a test.
unfoldable pub how_many_pairs : (ℕ → ℕ → Bool) → ℕ
how_many_pairs test = sum_by (λ one. how_many (test one)) (range_with_len 0 256)

-- How many draws pass the test of confusion, and that of paralysis.

abbrev pub confusion_draws : Bool → ℕ
confusion_draws confused = if confused then 128 else 256

abbrev pub paralysis_draws : Bool → ℕ
paralysis_draws paralysed = if paralysed then 193 else 256

-- Nobody acts in a battle with a member that has fallen, or uses another move than it has to.
abbrev pub acting_draws : Side → Move → Field → ℕ
acting_draws s move f =
    if has_fallen_in s f || has_fallen_in (other s) f then 0
    else if is_bound s move f then 0
    else how_many_pairs (acts_by s (pick_of s move f) f)

-- The hit

-- How many of the 256 critical draws lead to a damage. A use without the usual damage takes none.
abbrev pub hurting_draws : Side → Move → Field → ℕ
hurting_draws s move f =
    if deals_usual s move f
    then mixed (critical_draws s move f) (flag (hurts_in s move true f)) (flag (hurts_in s move false f))
    else 256

-- Of the 65,536 pairs of a critical draw and one of the hit test. A use that only charges does not hit.
abbrev pub landing_draws : Rules → Side → Move → Field → ℕ
landing_draws r s move f =
    if charges_first s move f then 0 else hit_draws r s move f * hurting_draws s move f

-- The hold: trapping holds a foe that its damage does not hurt, and ends by a miss alone

abbrev pub holding_reason : Side → Move → Field → Option Reason
holding_reason s move f =
    if has_fallen_in s f || has_fallen_in (other s) f then Some reasons.Fallen
    else if deals_usual s move f && not (is_some (before_types (numbers_in s move false f))) then Some reasons.Fault
    else None

abbrev pub holding_draws : Side → Move → Field → ℕ
holding_draws s move f = if traps move.effect then draws_by (holding_reason s move f) s move f else 0

-- The whole

abbrev pub action_odds_in : Rules → Side → Move → Field → ActionOdds
action_odds_in r s move f = record {
  acts = acting_draws s move f;
  acts_of = 65536;
  hits = acting_draws s move f * landing_draws r s move f;
  hits_of = 4294967296;
  side_effect = side_effect_draws r s move f;
  holds = holding_draws s move f;
  zeros = replicate 4 0;
}
