-- The bytes that represent a battle, and the result of reading other bytes (docs/LAYOUT.md, "Loading"). There are
-- seven tests, and the first that fails names the error.
use Rattle.std.specs.Prelude.{List, [], slice_index, slice_range, ℕ, ◌*◌, ◌+◌, ◌-◌, ◌∷◌, if◌then◌else◌, slice_set, ◌==◌, ◌≡◌, ◌≤◌, All, Bool, nat_le, not, true, ◌%◌, ◌&&◌, ◌<◌, ◌||◌, ◌≢◌, ◌⊎◌, false, nat_lt, Err, Ok, Result, codes, length}
use Rattle.gen1_stats.specs.Members.{IsBetween, is_left_out}
use Rattle.std.specs.Int.{bit_at}
use Rattle.gen1_tables.specs.declared.effect.Effect.{Effect}
use Rattle.gen1_tables.specs.Moves.{move_row}
use Rattle.gen1_tables.specs.Effects.{bides, charges, rages, recharges, thrashes, traps}
use Rattle.gen1_machine.specs.Valid.{OnlyWith}
use Rattle.gen1_tables.specs.declared.effect.Stat.{Stat}
use Rattle.gen1_tables.specs.declared.effect.Stat.TheVariants.{Attack, Defense, Speed, Special}
use Rattle.gen1_machine.specs.Stages.{now_at}
use Rattle.gen1_tables.specs.Types.{any}
use Rattle.gen1_layout.specs.declared.loading.LoadFault.{LoadFault}
use Rattle.gen1_layout.specs.Parts.{parts_of, Parts}
use Rattle.gen1_tables.specs.declared.effect.Effect.TheVariants as effects
use Rattle.gen1_layout.specs.declared.loading.LoadFault.TheVariants as faults

-- Numbers and parts of the 384 bytes (docs/LAYOUT.md, "The 384 bytes of a battle"), as the tests of reading see them.

-- Two bytes, the low one first.
abbrev pub word : List ℕ → ℕ → ℕ
word bytes k = slice_index bytes k + 256 * slice_index bytes (k + 1)

-- Four bytes, the lowest first.
abbrev pub long : List ℕ → ℕ → ℕ
long bytes k = word bytes k + 65536 * word bytes (k + 2)

-- The parts of the whole

abbrev pub header_of : List ℕ → List ℕ
header_of bytes = slice_range bytes 0 24

abbrev pub side_one : List ℕ → List ℕ
side_one bytes = slice_range bytes 24 204

abbrev pub side_two : List ℕ → List ℕ
side_two bytes = slice_range bytes 204 384

-- The parts of a side. Places are counted from 1

abbrev pub member_bytes : ℕ → List ℕ → List ℕ
member_bytes place side = slice_range side (24 * (place - 1)) (24 * (place - 1) + 24)

-- The six places of a side.
abbrev pub places_of : List ℕ → List (List ℕ)
places_of side =
    member_bytes 1 side ∷ member_bytes 2 side ∷ member_bytes 3 side ∷ member_bytes 4 side ∷ member_bytes 5 side
    ∷ member_bytes 6 side ∷ []

abbrev pub active_bytes : List ℕ → List ℕ
active_bytes side = slice_range side 144 180

-- The tests of the version and of the header (docs/LAYOUT.md, "Header" and "Versions 1 and 2").

-- Versions before 3 have no turn limit, and version 1 has no rules.
pub record PassesVersion (bytes : List ℕ) : Type 0 where
  pub limit : slice_index bytes 0 ≤ 2 → word bytes 20 ≡ 0
  pub rules : slice_index bytes 0 ≡ 1 → slice_index bytes 19 ≡ 0

-- The form of version 3. For an older version the limit is 1,000.
abbrev pub version_three : List ℕ → List ℕ
version_three bytes = if slice_index bytes 0 == 3 then bytes else slice_set (slice_set (slice_set bytes 0 3) 20 232) 21 3

-- The test of the header, in that form.
pub record PassesHeader (header : List ℕ) : Type 0 where
  pub limit : IsBetween 1 9999 (word header 20)
  pub turn : word header 1 ≤ word header 20
  pub index : slice_index header 5 ≤ 8
  pub outcome : slice_index header 16 ≤ 5
  pub request_one : slice_index header 17 ≤ 2
  pub request_two : slice_index header 18 ≤ 2
  pub rules : slice_index header 19 ≤ 3
  pub rest : word header 22 ≡ 0

-- The test of a side's six places for members (docs/LAYOUT.md, "Member").

pub record PassesNumbers (member : List ℕ) : Type 0 where
  pub species : IsBetween 1 151 (slice_index member 0)
  pub level : IsBetween 1 100 (slice_index member 1)
  pub max : IsBetween 11 999 (word member 2)
  pub hp : word member 4 ≤ word member 2

pub record PassesOwnStats (member : List ℕ) : Type 0 where
  pub attack : IsBetween 5 999 (word member 6)
  pub defense : IsBetween 5 999 (word member 8)
  pub speed : IsBetween 5 999 (word member 10)
  pub special : IsBetween 5 999 (word member 12)

-- The status and its mark

abbrev pub status_fits : ℕ → Bool
status_fits byte = nat_le byte 8 || byte == 16 || byte == 32 || byte == 64

pub record PassesStatus (rules : ℕ) (member : List ℕ) : Type 0 where
  pub status : status_fits (slice_index member 14) ≡ true
  pub fallen : word member 4 ≡ 0 → slice_index member 14 ≡ 0
  pub mark : slice_index member 23 ≤ 1
  pub marked : slice_index member 23 ≡ 1 → (rules % 2 ≡ 1) × IsBetween 1 7 (slice_index member 14)

-- The moves

-- A move that a member may know.
abbrev pub may_be_known : ℕ → Bool
may_be_known id = nat_le 1 id && nat_le id 164 && not (is_left_out id)

-- No move, or a move with its PP. The slots before it hold other moves.
abbrev pub PassesSlot : ℕ → List ℕ → Type 0
PassesSlot slot member =
    ((slice_index member (14 + slot) ≡ 0) × (slice_index member (18 + slot) ≡ 0))
    ⊎ ((may_be_known (slice_index member (14 + slot)) ≡ true) × (slice_index member (18 + slot) ≤ 63)
    × All (λ earlier. (earlier ≢ 0) × (earlier ≢ slice_index member (14 + slot))) (slice_range member 15 (14 + slot)))

pub record PassesMoves (member : List ℕ) : Type 0 where
  pub some : slice_index member 15 ≢ 0
  pub first : PassesSlot 1 member
  pub second : PassesSlot 2 member
  pub third : PassesSlot 3 member
  pub fourth : PassesSlot 4 member

pub record PassesMember (rules : ℕ) (member : List ℕ) : Type 0 where
  pub numbers : PassesNumbers member
  pub stats : PassesOwnStats member
  pub status : PassesStatus rules member
  pub moves : PassesMoves member

-- The places

-- No member, or a member. The place before it holds a member too.
abbrev pub PassesPlace : ℕ → List ℕ → List ℕ → Type 0
PassesPlace rules before member =
    All (λ byte. byte ≡ 0) member ⊎ (PassesMember rules member × (slice_index before 0 ≢ 0))

pub record PassesMembers (rules : ℕ) (side : List ℕ) : Type 0 where
  pub first : PassesMember rules (member_bytes 1 side)
  pub others : (place : ℕ) → 2 ≤ place → place < 7 → PassesPlace rules (member_bytes (place - 1) side) (member_bytes place side)

-- The test of an active block, without its current stats (docs/LAYOUT.md, "Active block" and "Condition bits").

-- Whether a condition is on, by the place of its bit.
abbrev pub has : ℕ → List ℕ → Bool
has bit active = bit_at (long active 17) bit == 1

-- A count is in its range if its condition is on, and 0 otherwise.
abbrev pub CountFits : Bool → ℕ → ℕ → ℕ → Type 0
CountFits true low high count = IsBetween low high count
CountFits false low high count = count ≡ 0

-- Slots

abbrev pub HoldsMove : List ℕ → ℕ → Type 0
HoldsMove member slot = IsBetween 1 4 slot × (slice_index member (14 + slot) ≢ 0)

-- No move, a slot that holds a move, or Struggle.
abbrev pub UsedFits : List ℕ → ℕ → Type 0
UsedFits member used = (used ≡ 0) ⊎ ((used ≡ 5) ⊎ HoldsMove member used)

-- With Disabled on, a slot that holds a move, and a count.
abbrev pub DisabledFits : Bool → List ℕ → ℕ → ℕ → Type 0
DisabledFits true member slot turns = HoldsMove member slot × IsBetween 1 8 turns
DisabledFits false member slot turns = (slot ≡ 0) × (turns ≡ 0)

-- The turns of Bide and thrashing, and those of trapping.
abbrev pub TurnsFit : Bool → Bool → ℕ → Type 0
TurnsFit true trapping turns = IsBetween 1 3 turns
TurnsFit false trapping turns = CountFits trapping 0 4 turns

-- What is underway belongs to the current move

-- A number without a move has no effect.
abbrev pub effect_of_number : ℕ → Effect
effect_of_number id = if nat_le 1 id && nat_le id 165 then (move_row id).effect else effects.DamageOnly

-- The effect of the move in a slot. No slot has none, and neither has Struggle's.
abbrev pub effect_in : List ℕ → ℕ → Effect
effect_in member slot =
    effect_of_number (if nat_le 1 slot && nat_le slot 4 then slice_index member (14 + slot) else 0)

pub record PassesUnderway (effect : Effect) (active : List ℕ) : Type 0 where
  pub bide : OnlyWith (bides effect) (has 0 active)
  pub thrash : OnlyWith (thrashes effect) (has 1 active)
  pub trapping : OnlyWith (traps effect) (has 2 active)
  pub charging : OnlyWith (charges effect) (has 4 active)
  pub recharge : OnlyWith (recharges effect) (has 10 active)
  pub rage : OnlyWith (rages effect) (has 11 active)

-- The block

-- The numbers of the other conditions.
pub record PassesCounts (member : List ℕ) (active : List ℕ) : Type 0 where
  pub substitute : CountFits (has 9 active) 0 249 (slice_index active 21)
  pub confused : CountFits (has 6 active) 1 5 (slice_index active 22)
  pub disabled : DisabledFits (has 16 active) member (slice_index active 23) (slice_index active 24)
  pub bad_poison : CountFits (has 13 active) 0 64 (slice_index active 25)

-- The numbers of what is underway.
pub record PassesProgress (active : List ℕ) : Type 0 where
  pub turns : TurnsFit (has 0 active || has 1 active) (has 2 active) (slice_index active 26)
  pub energy : CountFits (has 0 active) 0 65535 (word active 27)
  pub kept : CountFits (has 11 active || has 1 active) 1 255 (slice_index active 31)

-- Stages are stored as 6 more than their number.
pub record PassesStages (active : List ℕ) : Type 0 where
  pub attack : slice_index active 3 ≤ 12
  pub defense : slice_index active 4 ≤ 12
  pub speed : slice_index active 5 ≤ 12
  pub special : slice_index active 6 ≤ 12
  pub accuracy : slice_index active 7 ≤ 12
  pub evasion : slice_index active 8 ≤ 12

-- The fields that depend on no other part.
pub record PassesFixed (active : List ℕ) : Type 0 where
  pub first_type : slice_index active 1 ≤ 14
  pub second_type : slice_index active 2 ≤ 14
  pub stages : PassesStages active
  pub conditions : long active 17 < 131072
  pub rest : long active 32 ≡ 0

pub record PassesOut (member : List ℕ) (active : List ℕ) : Type 0 where
  pub fixed : PassesFixed active
  pub counts : PassesCounts member active
  pub progress : PassesProgress active
  pub current_move : UsedFits member (slice_index active 29)
  pub picked_move : UsedFits member (slice_index active 30)
  pub underway : PassesUnderway (effect_in member (slice_index active 29)) active

-- The member that is out.
abbrev pub out_bytes : List ℕ → List ℕ
out_bytes side = member_bytes (slice_index side 144) side

-- From turn 1 on.
pub record PassesActive (side : List ℕ) : Type 0 where
  pub place : IsBetween 1 6 (slice_index side 144)
  pub member : slice_index (out_bytes side) 0 ≢ 0
  pub out : PassesOut (out_bytes side) (active_bytes side)

-- At turn 0 no member is out.
pub record PassesActiveAt (turn : ℕ) (side : List ℕ) : Type 0 where
  pub before : turn ≡ 0 → All (λ byte. byte ≡ 0) (active_bytes side)
  pub later : 1 ≤ turn → PassesActive side

-- The test of the current stats (docs/LAYOUT.md, "Current stats").

-- An unmodified stat at its stage, after at most this many penalties.
pub record ComesFrom (unmodified stage : ℕ) (stat : Stat) (most current : ℕ) : Type 0 where
  pub times : ℕ
  pub few : times ≤ most
  pub same : current ≡ now_at unmodified stage stat times

pub record PassesStats (member : List ℕ) (active : List ℕ) : Type 0 where
  pub attack : ComesFrom (word member 6) (slice_index active 3) Attack 9 (word active 9)
  pub defense : ComesFrom (word member 8) (slice_index active 4) Defense 0 (word active 11)
  pub speed : ComesFrom (word member 10) (slice_index active 5) Speed 5 (word active 13)
  pub special : ComesFrom (word member 12) (slice_index active 6) Special 0 (word active 15)

-- The test from turn 1 on.
pub record PassesStatsAt (turn : ℕ) (side : List ℕ) : Type 0 where
  pub later : 1 ≤ turn → PassesStats (out_bytes side) (active_bytes side)

-- The test of turn, outcome, requests and living members together (docs/LAYOUT.md, "Turn, outcome and requests").

abbrev pub lives : List ℕ → Bool
lives member = nat_lt 0 (word member 4)

abbrev pub any_lives : List ℕ → Bool
any_lives side = any lives (places_of side)

-- The two requests: 0 is Pass, 1 is Move, 2 is Switch.
abbrev pub Asks : List ℕ → ℕ → ℕ → Type 0
Asks header one two = (slice_index header 17 ≡ one) × (slice_index header 18 ≡ two)

-- Before the first turn.
pub record PassesStart (header : List ℕ) (one two : List ℕ) : Type 0 where
  pub ongoing : slice_index header 16 ≡ 0
  pub asks : Asks header 0 0
  pub first_one : lives (member_bytes 1 one) ≡ true
  pub first_two : lives (member_bytes 1 two) ≡ true

-- By whether the two members that are out live. No member is replaced after the last turn.
abbrev pub PassesAsked : Bool → Bool → List ℕ → Type 0
PassesAsked true true header = Asks header 1 1
PassesAsked false true header = Asks header 2 0 × (word header 1 < word header 20)
PassesAsked true false header = Asks header 0 2 × (word header 1 < word header 20)
PassesAsked false false header = Asks header 2 2 × (word header 1 < word header 20)

-- The turn is the last and both sides live, or neither does.
abbrev pub PassesTie : Bool → Bool → List ℕ → Type 0
PassesTie one two header =
    ((one ≡ false) × (two ≡ false)) ⊎ ((word header 1 ≡ word header 20) × (one ≡ true) × (two ≡ true))

-- From turn 1 on. The outcomes are 0 Ongoing, 1 WinOne, 2 WinTwo, 3 Tie, 4 and 5 a fault.
pub record PassesLater (header : List ℕ) (one two : List ℕ) : Type 0 where
  pub ongoing :
      slice_index header 16 ≡ 0
      → (any_lives one ≡ true) × (any_lives two ≡ true) × PassesAsked (lives (out_bytes one)) (lives (out_bytes two)) header
  pub over : 1 ≤ slice_index header 16 → Asks header 0 0
  pub win_one : slice_index header 16 ≡ 1 → (any_lives one ≡ true) × (any_lives two ≡ false)
  pub win_two : slice_index header 16 ≡ 2 → (any_lives one ≡ false) × (any_lives two ≡ true)
  pub tie : slice_index header 16 ≡ 3 → PassesTie (any_lives one) (any_lives two) header

abbrev pub PassesRequests : List ℕ → List ℕ → List ℕ → Type 0
PassesRequests header one two =
    ((word header 1 ≡ 0) × PassesStart header one two) ⊎ ((1 ≤ word header 1) × PassesLater header one two)

-- The tests of the form of version 3, each for both sides

abbrev pub PassesOfMembers : List ℕ → Type 0
PassesOfMembers form =
    PassesMembers (slice_index form 19) (side_one form) × PassesMembers (slice_index form 19) (side_two form)

abbrev pub PassesOfActives : List ℕ → Type 0
PassesOfActives form = PassesActiveAt (word form 1) (side_one form) × PassesActiveAt (word form 1) (side_two form)

abbrev pub PassesOfStats : List ℕ → Type 0
PassesOfStats form = PassesStatsAt (word form 1) (side_one form) × PassesStatsAt (word form 1) (side_two form)

abbrev pub PassesOfRequests : List ℕ → Type 0
PassesOfRequests form = PassesRequests (header_of form) (side_one form) (side_two form)

-- The numbers of errors are those of their tests.
abbrev pub number_of : LoadFault → ℕ
number_of faults.Length = 1
number_of faults.Version = 2
number_of faults.Header = 3
number_of faults.Member = 4
number_of faults.Active = 5
number_of faults.Stat = 6
number_of faults.Request = 7

-- What is wrong, in words.
abbrev pub words_of : LoadFault → List ℕ
words_of faults.Length = codes "a battle has 384 bytes"
words_of faults.Version = codes "the layout version is not 1, 2 or 3"
words_of faults.Header = codes "a field of the header is out of its range"
words_of faults.Member = codes "a place holds no valid member"
words_of faults.Active = codes "a field of an active block is out of its range"
words_of faults.Stat = codes "a current stat does not come from its stage"
words_of faults.Request = codes "turn, outcome, requests and living members do not fit together"

-- The seven tests. The first three are about the bytes themselves, the others about their form of version 3.
abbrev pub PassesTest : LoadFault → List ℕ → Type 0
PassesTest faults.Length bytes = length bytes ≡ 384
PassesTest faults.Version bytes = IsBetween 1 3 (slice_index bytes 0)
PassesTest faults.Header bytes = PassesVersion bytes × PassesHeader (header_of (version_three bytes))
PassesTest faults.Member bytes = PassesOfMembers (version_three bytes)
PassesTest faults.Active bytes = PassesOfActives (version_three bytes)
PassesTest faults.Stat bytes = PassesOfStats (version_three bytes)
PassesTest faults.Request bytes = PassesOfRequests (version_three bytes)

-- Bytes that pass every test with a smaller number.
abbrev pub PassesBefore : ℕ → List ℕ → Type 0
PassesBefore number bytes = (fault : LoadFault) → number_of fault < number → PassesTest fault bytes

-- The form of version 3 if all tests pass, and otherwise the error of the first test that fails.
abbrev pub IsReadAs : Result (List ℕ) LoadFault → List ℕ → Type 0
IsReadAs (Ok form) bytes = PassesBefore 8 bytes × (form ≡ version_three bytes)
IsReadAs (Err fault) bytes = PassesBefore (number_of fault) bytes × (PassesTest fault bytes → ⊥)

-- A loaded battle has the parts of the form. Otherwise the error is that of the first test that fails.
abbrev pub IsLoadedAs : Result Parts LoadFault → List ℕ → Type 0
IsLoadedAs (Ok loaded) bytes = PassesBefore 8 bytes × (loaded ≡ parts_of (version_three bytes))
IsLoadedAs (Err fault) bytes = PassesBefore (number_of fault) bytes × (PassesTest fault bytes → ⊥)
