-- Plain states, the test of a field of one, and what is wrong where it fails.
use Rattle.std.specs.Prelude.{Bool, Err, List, Ok, Result, [], if◌then◌else◌, nat_le, ℕ, ◌&&◌, ◌∷◌, slice_index, replicate, slice_index_or, ◌++◌, ◌/◌, ◌==◌}
use Rattle.gen1_states.specs.declared.fault.StateFault.{StateFault}
use Rattle.gen1_states.specs.declared.fault.StateField.{StateField}
use Rattle.gen1_states.specs.declared.fault.Test.{Test}
use Rattle.gen1_states.specs.declared.plain.BattleState.{BattleState}
use Rattle.gen1_states.specs.declared.plain.MemberState.{MemberState}
use Rattle.gen1_states.specs.declared.plain.SideState.{SideState}
use Rattle.gen1_states.specs.Reading.{no_active}
use Rattle.gen1_machine.specs.Layout.{high_byte, low_byte}
use Rattle.gen1_states.specs.declared.plain.ActiveState.{ActiveState}
use Rattle.gen1_states.specs.declared.fault.StateField.TheVariants as fields

abbrev pub field_number : StateField → ℕ
field_number fields.Unnamed = 0
field_number fields.Limit = 1
field_number fields.Turn = 2
field_number fields.Index = 3
field_number fields.Outcome = 4
field_number fields.Rules = 5
field_number fields.Request = 6
field_number fields.Species = 7
field_number fields.Level = 8
field_number fields.MaxHp = 9
field_number fields.Hp = 10
field_number fields.OwnStat = 11
field_number fields.Status = 12
field_number fields.Sleep = 13
field_number fields.Marked = 14
field_number fields.Move = 15
field_number fields.Pp = 16
field_number fields.Place = 17
field_number fields.Type = 18
field_number fields.Stage = 19
field_number fields.Conditions = 20
field_number fields.Substitute = 21
field_number fields.Confusion = 22
field_number fields.DisabledSlot = 23
field_number fields.DisabledTurns = 24
field_number fields.BadPoison = 25
field_number fields.Turns = 26
field_number fields.Energy = 27
field_number fields.KeptAccuracy = 28
field_number fields.CurrentMove = 29
field_number fields.PickedMove = 30
field_number fields.TiedCondition = 31
field_number fields.CurrentStat = 32

-- A value has to be in a range.
abbrev pub within : StateField → ℕ → ℕ → ℕ → ℕ → Test
within field index value low high =
    record { field = field; index = index; value = value; low = low; high = high; passes = nat_le low value && nat_le value high }

-- And a further rule has to hold.
abbrev pub ruled : Test → Bool → Test
ruled test holds = record test { passes = test.passes && holds }

-- A bound that applies if something holds, and otherwise 0.
abbrev pub on : Bool → ℕ → ℕ
on holds bound = if holds then bound else 0

-- All tests pass, or the first that fails.
abbrev pub Tested : Type 0
Tested = Result (Unit {0}) Test

unfoldable pub first_of : List Test → Tested
first_of [] = Ok tt
first_of (test ∷ tests) = if test.passes then first_of tests else Err test

-- Some tests, and if they pass others.
infixr 5 ◌▸◌
abbrev pub ◌▸◌ : {E : Type 0} → Result (Unit {0}) E → Result (Unit {0}) E → Result (Unit {0}) E
Ok passed ▸ others = others
Err fault ▸ others = Err fault

-- What is wrong with a side, 1 or 2, or with the whole battle, 0; and at a place of the side, or at none, 0.
abbrev pub Passed : Type 0
Passed = Result (Unit {0}) StateFault

abbrev pub fault_at : ℕ → ℕ → Tested → Passed
fault_at side place (Ok passed) = Ok passed
fault_at side place (Err test) =
    Err (record { field = test.field; side = side; place = place; index = test.index; value = test.value; low = test.low; high = test.high })

-- The tests of the fields of the whole battle (docs/LAYOUT.md, "Header").

abbrev pub header_tests : BattleState → List Test
header_tests b =
    within fields.Limit 0 b.limit 1 9999 ∷ within fields.Turn 0 b.turn 0 b.limit ∷ within fields.Index 0 b.index 0 8
    ∷ within fields.Outcome 0 b.outcome 0 5 ∷ within fields.Rules 0 b.rules 0 3 ∷ []

abbrev pub request_test : ℕ → Test
request_test request = within fields.Request 0 request 0 2

abbrev pub tested_header : BattleState → Passed
tested_header b =
    fault_at 0 0 (first_of (header_tests b))
    ▸ fault_at 1 0 (first_of (request_test (slice_index b.requests 0) ∷ []))
    ▸ fault_at 2 0 (first_of (request_test (slice_index b.requests 1) ∷ []))

-- The parts of a plain state.

-- a place without a member
abbrev pub no_member : MemberState
no_member = record {
  species = 0;
  level = 0;
  status = 0;
  sleep = 0;
  marked = 0;
  moves = replicate 4 0;
  pp = replicate 4 0;
  hp = 0;
  max_hp = 0;
  stats = replicate 4 0;
}

abbrev pub no_side : SideState
no_side = record { members = replicate 6 no_member; active = no_active }

abbrev pub first_side : BattleState → SideState
first_side b = slice_index_or b.sides 0 no_side

abbrev pub second_side : BattleState → SideState
second_side b = slice_index_or b.sides 1 no_side

-- The member at a place, counted from 0.
abbrev pub member_at : ℕ → SideState → MemberState
member_at index side = slice_index_or side.members index no_member

-- The 384 bytes of a plain state (docs/LAYOUT.md, "The 384 bytes of a battle"). A state with wrong fields has bytes too,
-- which loading refuses.

abbrev pub header_bytes : BattleState → List ℕ
header_bytes b =
    3 ∷ low_byte b.turn ∷ high_byte b.turn ∷ low_byte b.last_damage ∷ high_byte b.last_damage ∷ b.index
    ∷ slice_index b.numbers 0 ∷ slice_index b.numbers 1 ∷ slice_index b.numbers 2 ∷ slice_index b.numbers 3
    ∷ slice_index b.numbers 4 ∷ slice_index b.numbers 5 ∷ slice_index b.numbers 6 ∷ slice_index b.numbers 7
    ∷ slice_index b.numbers 8 ∷ slice_index b.numbers 9
    ∷ b.outcome ∷ slice_index b.requests 0 ∷ slice_index b.requests 1 ∷ b.rules ∷ low_byte b.limit ∷ high_byte b.limit ∷ 0 ∷ 0 ∷ []

-- The byte of a kind of status and a count of sleep. One that no member has gives 255, which loading refuses.
abbrev pub awake_byte : ℕ → ℕ
awake_byte kind =
    if kind == 0 then 0
    else if kind == 2 then 8
    else if kind == 3 then 16
    else if kind == 4 then 32
    else if kind == 5 then 64
    else 255

abbrev pub status_byte : ℕ → ℕ → ℕ
status_byte kind sleep =
    if kind == 1 then (if nat_le 1 sleep && nat_le sleep 7 then sleep else 255)
    else if sleep == 0 then awake_byte kind
    else 255

abbrev pub member_bytes : MemberState → List ℕ
member_bytes m =
    m.species ∷ m.level ∷ low_byte m.max_hp ∷ high_byte m.max_hp ∷ low_byte m.hp ∷ high_byte m.hp
    ∷ low_byte (slice_index m.stats 0) ∷ high_byte (slice_index m.stats 0) ∷ low_byte (slice_index m.stats 1) ∷ high_byte (slice_index m.stats 1)
    ∷ low_byte (slice_index m.stats 2) ∷ high_byte (slice_index m.stats 2) ∷ low_byte (slice_index m.stats 3) ∷ high_byte (slice_index m.stats 3)
    ∷ status_byte m.status m.sleep
    ∷ slice_index m.moves 0 ∷ slice_index m.moves 1 ∷ slice_index m.moves 2 ∷ slice_index m.moves 3
    ∷ slice_index m.pp 0 ∷ slice_index m.pp 1 ∷ slice_index m.pp 2 ∷ slice_index m.pp 3 ∷ m.marked ∷ []

abbrev pub active_bytes : ActiveState → List ℕ
active_bytes a =
    a.place ∷ slice_index a.types 0 ∷ slice_index a.types 1
    ∷ slice_index a.stages 0 ∷ slice_index a.stages 1 ∷ slice_index a.stages 2 ∷ slice_index a.stages 3 ∷ slice_index a.stages 4 ∷ slice_index a.stages 5
    ∷ low_byte (slice_index a.stats 0) ∷ high_byte (slice_index a.stats 0) ∷ low_byte (slice_index a.stats 1) ∷ high_byte (slice_index a.stats 1)
    ∷ low_byte (slice_index a.stats 2) ∷ high_byte (slice_index a.stats 2) ∷ low_byte (slice_index a.stats 3) ∷ high_byte (slice_index a.stats 3)
    ∷ low_byte a.conditions ∷ high_byte a.conditions ∷ low_byte (a.conditions / 65536) ∷ high_byte (a.conditions / 65536)
    ∷ a.substitute ∷ a.confusion ∷ a.disabled_slot ∷ a.disabled_turns ∷ a.bad_poison ∷ a.turns ∷ low_byte a.energy ∷ high_byte a.energy
    ∷ a.current_move ∷ a.picked_move ∷ a.kept_accuracy ∷ 0 ∷ 0 ∷ 0 ∷ 0 ∷ []

-- Bytes with those of a side after them.
unfoldable pub side_after : List ℕ → SideState → List ℕ
side_after bytes s =
    ((((((bytes ++ member_bytes (member_at 0 s)) ++ member_bytes (member_at 1 s)) ++ member_bytes (member_at 2 s))
    ++ member_bytes (member_at 3 s)) ++ member_bytes (member_at 4 s)) ++ member_bytes (member_at 5 s)) ++ active_bytes s.active

unfoldable pub bytes_of : BattleState → List ℕ
bytes_of b = side_after (side_after (header_bytes b) (first_side b)) (second_side b)
