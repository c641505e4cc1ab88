-- The first field of a plain state that is wrong, in the order in which loading tests the bytes (docs/LAYOUT.md, "Plain states").
use Rattle.std.specs.Prelude.{Bool, List, [], false, not, ◌<◌, ◌≡◌, ◌≢◌, ◌⊎◌, slice_index, true, ℕ, ◌%◌, ◌&&◌, ◌==◌, ◌||◌, ◌∷◌, if◌then◌else◌, nat_le, ◌+◌, ◌-◌, nat_lt, min, max, suc, zero, ◌/◌, Err, Ok}
use Rattle.gen1_layout.specs.Loading.{may_be_known, effect_of_number}
use Rattle.gen1_states.specs.declared.fault.Test.{Test}
use Rattle.gen1_states.specs.declared.plain.MemberState.{MemberState}
use Rattle.gen1_states.specs.declared.plain.SideState.{SideState}
use Rattle.gen1_states.specs.Plain.{Passed, Tested, fault_at, first_of, on, ruled, tested_header, within, ◌▸◌, first_side, member_at, second_side}
use Rattle.std.specs.Int.{bit_at}
use Rattle.gen1_tables.specs.declared.effect.Effect.{Effect}
use Rattle.gen1_tables.specs.Effects.{bides, charges, rages, recharges, thrashes, traps}
use Rattle.gen1_states.specs.declared.fault.StateField.{StateField}
use Rattle.gen1_states.specs.declared.plain.ActiveState.{ActiveState}
use Rattle.gen1_states.specs.declared.plain.BattleState.{BattleState}
use Rattle.gen1_tables.specs.declared.effect.Stat.{Stat}
use Rattle.gen1_tables.specs.declared.effect.Stat.TheVariants.{Attack, Defense, Special, Speed}
use Rattle.gen1_machine.specs.Rules.{bit_of}
use Rattle.gen1_machine.specs.Stages.{now_at}
use Rattle.gen1_states.specs.declared.fault.StateFault.{StateFault}
use Rattle.gen1_states.specs.declared.fault.StateField.TheVariants as fields

-- The tests of a side's members (docs/LAYOUT.md, "Member"). A place whose species is 0 has no member, and all its
-- fields are 0.

abbrev pub is_there : MemberState → Bool
is_there m = not (m.species == 0)

-- The species may be from one number to another.
abbrev pub number_tests : MemberState → ℕ → ℕ → List Test
number_tests m least most =
    within fields.Species 0 m.species least most ∷ within fields.Level 0 m.level (on (is_there m) 1) (on (is_there m) 100)
    ∷ within fields.MaxHp 0 m.max_hp (on (is_there m) 11) (on (is_there m) 999) ∷ within fields.Hp 0 m.hp 0 m.max_hp ∷ []

abbrev pub own_stat_test : Bool → ℕ → ℕ → Test
own_stat_test there index stat = within fields.OwnStat index stat (on there 5) (on there 999)

abbrev pub own_stat_tests : MemberState → List Test
own_stat_tests m =
    own_stat_test (is_there m) 1 (slice_index m.stats 0) ∷ own_stat_test (is_there m) 2 (slice_index m.stats 1)
    ∷ own_stat_test (is_there m) 3 (slice_index m.stats 2) ∷ own_stat_test (is_there m) 4 (slice_index m.stats 3) ∷ []

-- A fallen member has no status. Only the sleep clause marks a sleeper.
abbrev pub status_tests : MemberState → ℕ → List Test
status_tests m rules =
    within fields.Status 0 m.status 0 (on (not (m.hp == 0)) 5)
    ∷ within fields.Sleep 0 m.sleep (on (m.status == 1) 1) (on (m.status == 1) 7)
    ∷ within fields.Marked 0 m.marked 0 (on (m.status == 1 && rules % 2 == 1) 1) ∷ []

-- The move in a slot, if there may be one: not left out, and new.
abbrev pub move_test : ℕ → Bool → ℕ → ℕ → Bool → Test
move_test slot may_be least id new =
    ruled (within fields.Move slot id least (on may_be 164)) (id == 0 || (may_be_known id && new))

-- Whether two moves differ.
abbrev differ : ℕ → ℕ → Bool
differ id other = not (id == other)

abbrev pub is_third : ℕ → ℕ → ℕ → Bool
is_third first second third = differ third first && differ third second

abbrev pub is_fourth : List ℕ → Bool
is_fourth ids =
    differ (slice_index ids 3) (slice_index ids 0) && differ (slice_index ids 3) (slice_index ids 1) && differ (slice_index ids 3) (slice_index ids 2)

-- A member knows a move in the first slot at least, none after a slot without one, and none twice.
abbrev pub move_tests : MemberState → List Test
move_tests m =
    move_test 1 (is_there m) (on (is_there m) 1) (slice_index m.moves 0) true
    ∷ move_test 2 (differ (slice_index m.moves 0) 0) 0 (slice_index m.moves 1) (differ (slice_index m.moves 1) (slice_index m.moves 0))
    ∷ move_test 3 (differ (slice_index m.moves 1) 0) 0 (slice_index m.moves 2)
    (is_third (slice_index m.moves 0) (slice_index m.moves 1) (slice_index m.moves 2))
    ∷ move_test 4 (differ (slice_index m.moves 2) 0) 0 (slice_index m.moves 3) (is_fourth m.moves) ∷ []

abbrev pub pp_test : ℕ → ℕ → ℕ → Test
pp_test slot id pp = within fields.Pp slot pp 0 (on (not (id == 0)) 63)

abbrev pub pp_tests : MemberState → List Test
pp_tests m =
    pp_test 1 (slice_index m.moves 0) (slice_index m.pp 0) ∷ pp_test 2 (slice_index m.moves 1) (slice_index m.pp 1)
    ∷ pp_test 3 (slice_index m.moves 2) (slice_index m.pp 2) ∷ pp_test 4 (slice_index m.moves 3) (slice_index m.pp 3) ∷ []

unfoldable pub tested_member : MemberState → ℕ → ℕ → ℕ → Tested
tested_member m least most rules =
    first_of (number_tests m least most) ▸ first_of (own_stat_tests m) ▸ first_of (status_tests m rules)
    ▸ first_of (move_tests m) ▸ first_of (pp_tests m)

-- A place after one without a member has none.
abbrev pub tested_next : MemberState → MemberState → ℕ → Tested
tested_next before m rules = tested_member m 0 (on (is_there before) 151) rules

unfoldable pub tested_members : SideState → ℕ → ℕ → Passed
tested_members side number rules =
    fault_at number 1 (tested_member (member_at 0 side) 1 151 rules)
    ▸ fault_at number 2 (tested_next (member_at 0 side) (member_at 1 side) rules)
    ▸ fault_at number 3 (tested_next (member_at 1 side) (member_at 2 side) rules)
    ▸ fault_at number 4 (tested_next (member_at 2 side) (member_at 3 side) rules)
    ▸ fault_at number 5 (tested_next (member_at 3 side) (member_at 4 side) rules)
    ▸ fault_at number 6 (tested_next (member_at 4 side) (member_at 5 side) rules)

-- The tests of the active members, without their current stats (docs/LAYOUT.md, "Active block", "Condition bits"). At
-- turn 0 no member is out, and all fields are 0.

-- The member that is out; the first for a place that is none.
abbrev pub member_out : SideState → MemberState
member_out s = member_at (if nat_le s.active.place 6 then s.active.place - 1 else 0) s

-- How many members a side has.
abbrev pub members_in : SideState → ℕ
members_in s =
    on (is_there (member_at 0 s)) 1 + on (is_there (member_at 1 s)) 1 + on (is_there (member_at 2 s)) 1
    + on (is_there (member_at 3 s)) 1 + on (is_there (member_at 4 s)) 1 + on (is_there (member_at 5 s)) 1

-- How many moves a member knows.
abbrev pub moves_in : MemberState → ℕ
moves_in m =
    on (not (slice_index m.moves 0 == 0)) 1 + on (not (slice_index m.moves 1 == 0)) 1 + on (not (slice_index m.moves 2 == 0)) 1
    + on (not (slice_index m.moves 3 == 0)) 1

abbrev pub place_test : SideState → Bool → Test
place_test s begun = within fields.Place 0 s.active.place (on begun 1) (on begun (members_in s))

abbrev pub fixed_tests : ActiveState → Bool → List Test
fixed_tests a begun =
    within fields.Type 1 (slice_index a.types 0) 0 (on begun 14) ∷ within fields.Type 2 (slice_index a.types 1) 0 (on begun 14)
    ∷ within fields.Conditions 0 a.conditions 0 (on begun 131071) ∷ []

abbrev pub stage_tests : ActiveState → Bool → List Test
stage_tests a begun =
    within fields.Stage 1 (slice_index a.stages 0) 0 (on begun 12) ∷ within fields.Stage 2 (slice_index a.stages 1) 0 (on begun 12)
    ∷ within fields.Stage 3 (slice_index a.stages 2) 0 (on begun 12) ∷ within fields.Stage 4 (slice_index a.stages 3) 0 (on begun 12)
    ∷ within fields.Stage 5 (slice_index a.stages 4) 0 (on begun 12) ∷ within fields.Stage 6 (slice_index a.stages 5) 0 (on begun 12) ∷ []

-- Whether a condition is on, by the place of its bit.
abbrev pub has : ActiveState → ℕ → Bool
has a bit = bit_at a.conditions bit == 1

-- The conditions with counts, for a member that knows this many moves.
abbrev pub count_tests : ActiveState → ℕ → List Test
count_tests a moves =
    within fields.Substitute 0 a.substitute 0 (on (has a 9) 249)
    ∷ within fields.Confusion 0 a.confusion (on (has a 6) 1) (on (has a 6) 5)
    ∷ within fields.DisabledSlot 0 a.disabled_slot (on (has a 16) 1) (on (has a 16) moves)
    ∷ within fields.DisabledTurns 0 a.disabled_turns (on (has a 16) 1) (on (has a 16) 8)
    ∷ within fields.BadPoison 0 a.bad_poison 0 (on (has a 13) 64) ∷ []

-- The numbers of what is underway. Bide and thrashing have 1 to 3 turns left, trapping has 0 to 4.
abbrev pub progress_tests : ActiveState → List Test
progress_tests a =
    within fields.Turns 0 a.turns (on (has a 0 || has a 1) 1) (if has a 0 || has a 1 then 3 else on (has a 2) 4)
    ∷ within fields.Energy 0 a.energy 0 (on (has a 0) 65535)
    ∷ within fields.KeptAccuracy 0 a.kept_accuracy (on (has a 11 || has a 1) 1) (on (has a 11 || has a 1) 255) ∷ []

-- 0 for no move, 5 for Struggle, or a slot that holds a move.
abbrev pub used_test : StateField → ℕ → ℕ → Bool → Test
used_test field used moves begun = ruled (within field 0 used 0 (on begun 5)) (used == 5 || nat_le used moves)

abbrev pub used_tests : ActiveState → ℕ → Bool → List Test
used_tests a moves begun = used_test fields.CurrentMove a.current_move moves begun ∷ used_test fields.PickedMove a.picked_move moves begun ∷ []

-- The effect of the move in a slot. No slot has none, and neither has Struggle's.
abbrev pub current_effect : MemberState → ℕ → Effect
current_effect m slot = effect_of_number (if nat_le 1 slot && nat_le slot 4 then slice_index m.moves (slot - 1) else 0)

-- What is underway belongs to a current move with this effect.
abbrev pub tied_test : ActiveState → ℕ → Bool → Test
tied_test a bit explained = within fields.TiedCondition bit (on (has a bit) 1) 0 (on explained 1)

abbrev pub tied_tests : ActiveState → Effect → List Test
tied_tests a effect =
    tied_test a 0 (bides effect) ∷ tied_test a 1 (thrashes effect) ∷ tied_test a 2 (traps effect) ∷ tied_test a 4 (charges effect)
    ∷ tied_test a 10 (recharges effect) ∷ tied_test a 11 (rages effect) ∷ []

unfoldable pub tested_block : SideState → Bool → Tested
tested_block s begun =
    first_of (place_test s begun ∷ []) ▸ first_of (fixed_tests s.active begun) ▸ first_of (stage_tests s.active begun)
    ▸ first_of (count_tests s.active (moves_in (member_out s))) ▸ first_of (progress_tests s.active)
    ▸ first_of (used_tests s.active (moves_in (member_out s)) begun)
    ▸ first_of (tied_tests s.active (current_effect (member_out s) s.active.current_move))

abbrev pub tested_active : SideState → ℕ → Bool → Passed
tested_active s number begun = fault_at number 0 (tested_block s begun)

-- The tests of turn, outcome, requests and living members together (docs/LAYOUT.md, "Turn, outcome and requests").

abbrev pub lives : MemberState → Bool
lives m = nat_lt 0 m.hp

abbrev pub any_lives : SideState → Bool
any_lives s =
    lives (member_at 0 s) || (lives (member_at 1 s) || (lives (member_at 2 s) || (lives (member_at 3 s) || (lives (member_at 4 s) || lives (member_at 5 s)))))

-- Whether an outcome fits which sides have a living member, in the last turn or before.
abbrev pub outcome_fits : ℕ → Bool → Bool → Bool → Bool
outcome_fits outcome one two is_last =
    if outcome == 0 then one && two
    else if outcome == 1 then one && not two
    else if outcome == 2 then not one && two
    else if outcome == 3 then (not one && not two) || (is_last && one && two)
    else true

-- At turn 0 nothing is decided.
abbrev pub outcome_test : BattleState → Test
outcome_test b =
    ruled (within fields.Outcome 0 b.outcome 0 (on (not (b.turn == 0)) 5))
    (b.turn == 0 || outcome_fits b.outcome (any_lives (first_side b)) (any_lives (second_side b)) (b.turn == b.limit))

-- What the two sides are asked for, by whether their active members live: 0 nothing, 1 a move, 2 a switch.
abbrev pub asked : Bool → Bool → ℕ × ℕ
asked one two = if one && two then (1, 1) else (on (not one) 2, on (not two) 2)

abbrev pub requests_due : BattleState → ℕ × ℕ
requests_due b =
    if b.turn == 0 || not (b.outcome == 0) then (0, 0)
    else asked (lives (member_out (first_side b))) (lives (member_out (second_side b)))

abbrev pub request_test : ℕ → ℕ → Test
request_test request due = within fields.Request 0 request due due

-- No member is replaced after the last turn.
abbrev pub turn_test : BattleState → Bool → Test
turn_test b replaces = within fields.Turn 0 b.turn 0 (if replaces then b.limit - 1 else b.limit)

-- Before the first turn the first member lives.
abbrev pub first_test : SideState → Bool → Test
first_test s is_start = within fields.Hp 0 (member_at 0 s).hp (on is_start 1) (member_at 0 s).max_hp

unfoldable pub tested_requests : BattleState → Passed
tested_requests b =
    fault_at 0 0 (first_of (outcome_test b ∷ []))
    ▸ fault_at 1 0 (first_of (request_test (slice_index b.requests 0) (requests_due b).0 ∷ []))
    ▸ fault_at 2 0 (first_of (request_test (slice_index b.requests 1) (requests_due b).1 ∷ []))
    ▸ fault_at 0 0 (first_of (turn_test b ((requests_due b).0 == 2 || (requests_due b).1 == 2) ∷ []))
    ▸ fault_at 1 1 (first_of (first_test (first_side b) (b.turn == 0) ∷ []))
    ▸ fault_at 2 1 (first_of (first_test (second_side b) (b.turn == 0) ∷ []))

-- Current stats that are left to be computed: all four are 0 (docs/MECHANICS.md, "Stages", "Penalties").

abbrev pub are_left : ActiveState → Bool
are_left a = slice_index a.stats 0 == 0 && slice_index a.stats 1 == 0 && slice_index a.stats 2 == 0 && slice_index a.stats 3 == 0

-- One of a member's own stats at its stage, after this many penalties.
abbrev pub stat_at : MemberState → ActiveState → ℕ → Stat → ℕ → ℕ
stat_at m a index stat penalties = now_at (slice_index m.stats index) (min (slice_index a.stages index) 12) stat penalties

-- A burned member (kind 3) has one penalty, and so has a paralysed one (kind 5).
abbrev pub computed_stats : MemberState → ActiveState → List ℕ
computed_stats m a =
    stat_at m a 0 Attack (bit_of (m.status == 3)) ∷ stat_at m a 1 Defense 0 ∷ stat_at m a 2 Speed (bit_of (m.status == 5))
    ∷ stat_at m a 3 Special 0 ∷ []

unfoldable pub completed_side : SideState → SideState
completed_side s =
    if are_left s.active then record s { active = record s.active { stats = computed_stats (member_out s) s.active } } else s

-- From turn 1 on.
abbrev pub completed : BattleState → BattleState
completed b =
    if b.turn == 0 then b else record b { sides = completed_side (first_side b) ∷ completed_side (second_side b) ∷ [] }

-- The tests of the current stats (docs/LAYOUT.md, "Current stats").

-- Whether a number becomes another one when it is divided at most this many times, each time to at least 1.
unfoldable pub comes_from : ℕ → ℕ → ℕ → ℕ → Bool
comes_from whole divisor stat zero = whole == stat
comes_from whole divisor stat (suc most) = whole == stat || comes_from (max (whole / divisor) 1) divisor stat most

-- Defense and Special have no penalties.
abbrev pub fixed_test : ℕ → ℕ → ℕ → Bool → Test
fixed_test index stat whole begun = within fields.CurrentStat index stat (on begun whole) (on begun whole)

-- A stat with penalties is above 0, and at most the whole.
abbrev pub penalty_test : ℕ → ℕ → ℕ → Bool → Bool → Test
penalty_test index stat whole begun comes = ruled (within fields.CurrentStat index stat (on begun 1) (on begun whole)) (not begun || comes)

-- Attack is halved 0 to 9 times, Speed quartered 0 to 5 times. More change nothing.
abbrev pub stat_tests : MemberState → ActiveState → Bool → List Test
stat_tests m a begun =
    penalty_test 1 (slice_index a.stats 0) (stat_at m a 0 Attack 0) begun (comes_from (stat_at m a 0 Attack 0) 2 (slice_index a.stats 0) 9)
    ∷ fixed_test 2 (slice_index a.stats 1) (stat_at m a 1 Defense 0) begun
    ∷ penalty_test 3 (slice_index a.stats 2) (stat_at m a 2 Speed 0) begun (comes_from (stat_at m a 2 Speed 0) 4 (slice_index a.stats 2) 5)
    ∷ fixed_test 4 (slice_index a.stats 3) (stat_at m a 3 Special 0) begun ∷ []

abbrev pub tested_stats : SideState → ℕ → Bool → Passed
tested_stats s number begun = fault_at number 0 (first_of (stat_tests (member_out s) s.active begun))

unfoldable pub tested : BattleState → Passed
tested b =
    tested_header b
    ▸ tested_members (first_side b) 1 b.rules ▸ tested_members (second_side b) 2 b.rules
    ▸ tested_active (first_side b) 1 (not (b.turn == 0)) ▸ tested_active (second_side b) 2 (not (b.turn == 0))
    ▸ tested_stats (first_side b) 1 (not (b.turn == 0)) ▸ tested_stats (second_side b) 2 (not (b.turn == 0))
    ▸ tested_requests b

-- The first test that fails. A state that passes all of them is a battle (TestedAreBattles), and is not refused.

abbrev pub unnamed : StateFault
unnamed = record { field = fields.Unnamed; side = 0; place = 0; index = 0; value = 0; low = 0; high = 0 }

abbrev pub fault_in : Passed → StateFault
fault_in (Err fault) = fault
fault_in (Ok passed) = unnamed

abbrev pub fault_of : BattleState → StateFault
fault_of b = fault_in (tested b)

-- The fields that have a rule besides their range.
abbrev pub has_rule : StateField → Bool
has_rule fields.Outcome = true
has_rule fields.Move = true
has_rule fields.CurrentMove = true
has_rule fields.PickedMove = true
has_rule fields.CurrentStat = true
has_rule _ = false

-- A fault names a field. The value is outside its range, unless the field has a further rule.
pub record IsNamed (fault : StateFault) : Type 0 where
  pub field : fault.field ≢ fields.Unnamed
  pub value : has_rule fault.field ≡ false → (fault.value < fault.low) ⊎ (fault.high < fault.value)
