-- Which states are valid (docs/LAYOUT.md, "Loading"). `IsState` is about a battle between two updates. `IsField` is
-- weaker: it also holds inside an update, while both sides have a member out.
--
-- Three properties hold only between two updates. Fallen members have no status, a kept accuracy belongs to rage or
-- thrashing, and turn, outcome and requests fit together.
--
-- "Loading" tests the bytes. Its tests are here as follows:
--     Header   `IsTerms`; `last_damage`, `turn` and `outcome` of `IsField`; at turn 0 `last_damage` of `IsUnstarted`; `seed` of `IsState`
--     Member   `IsMembersUnder` and `FallenAreHealthy`
--     Active   `place` and `active` of `IsParty`, and `KeepsAccuracy`; at turn 0 `nobody_out`
--     Stat     nothing: the stats of the bytes are computed from a stage and the penalties (`now`), and any penalties are valid
--     Request  `StandsAs`; at turn 0 `first_one`, `first_two`, `outcome` and `requests` of `IsUnstarted`
use Rattle.std.specs.Prelude.{All, Bool, List, None, Option, Some, false, is_some, length, true, ℕ, ◌<◌, ◌||◌, ◌≡◌, ◌≤◌, ◌⊎◌}
use Rattle.gen1_tables.specs.declared.effect.Effect.{Effect}
use Rattle.gen1_tables.specs.Types.{any}
use Rattle.gen1_rolls.specs.Streams.{IsStream, Link}
use Rattle.gen1_stats.specs.declared.member.KnownMove.{KnownMove}
use Rattle.gen1_stats.specs.declared.member.Status.{Status}
use Rattle.gen1_stats.specs.declared.member.Status.TheVariants.{Asleep, Healthy}
use Rattle.gen1_stats.specs.Members.{is_living, IsBetween, IsMember, Member}
use Rattle.gen1_machine.specs.declared.side.Side.{Side}
use Rattle.gen1_machine.specs.declared.side.Side.TheVariants.{One, Two}
use Rattle.gen1_machine.specs.declared.terms.Outcome.{Outcome}
use Rattle.gen1_machine.specs.declared.terms.Outcome.TheVariants as outcomes
use Rattle.gen1_machine.specs.declared.terms.Request.TheVariants as requests
use Rattle.gen1_machine.specs.declared.side.DisabledSlot.{DisabledSlot}
use Rattle.gen1_machine.specs.declared.side.UsedMove.{UsedMove}
use Rattle.gen1_machine.specs.declared.side.UsedMove.TheVariants.{Slot}
use Rattle.gen1_machine.specs.Rules.{Rules}
use Rattle.gen1_machine.specs.Conditions.{Storing, Underway, ActiveConditions}
use Rattle.gen1_machine.specs.State.{has_fallen_in, member_at, nobody_out, party, Stages, Active, Party, Field, Terms, State}
use Rattle.gen1_tables.specs.Effects.{bides, charges, rages, recharges, thrashes, traps}
use Rattle.gen1_machine.specs.Moves.{move_at}
use Rattle.gen1_machine.specs.Picks.{number_in}
use Rattle.gen1_machine.specs.Falls.{switch_if}

-- The terms, and the rest of the header. Any rules are valid, since each clause holds or doesn't hold.

pub record IsTerms (terms : Terms) : Type 0 where
  pub limit : IsBetween 1 9999 terms.limit

abbrev pub IsOutcome : Outcome → Type 0
IsOutcome (outcomes.Fault n) = IsBetween 1 2 n
IsOutcome _ = Unit {0}

-- A member

-- The second holds only if the first does.
abbrev pub OnlyWith : Bool → Bool → Type 0
OnlyWith explained stands = stands ≡ true → explained ≡ true

-- Sleep has 1 to 7 turns left. Only the sleep clause marks a sleeper.
abbrev pub IsStatus : Rules → Status → Type 0
IsStatus rules (Asleep turns marked) = IsBetween 1 7 turns × OnlyWith rules.sleep_clause marked
IsStatus rules _ = Unit {0}

pub record IsMemberUnder (rules : Rules) (m : Member) : Type 0 where
  pub numbers : IsMember m  -- level, HP, stats, and one to four different moves that a member may know, with their PP
  pub species : IsBetween 1 151 m.species
  pub moves : All (λ (k : KnownMove). IsBetween 1 165 k.id) m.moves
  pub status : IsStatus rules m.status

pub record IsMembersUnder (rules : Rules) (members : List Member) : Type 0 where
  pub size : IsBetween 1 6 (length members)
  pub each : All (IsMemberUnder rules) members

-- A member that is out

pub record IsStages (s : Stages) : Type 0 where
  pub attack : s.attack ≤ 12
  pub defense : s.defense ≤ 12
  pub speed : s.speed ≤ 12
  pub special : s.special ≤ 12
  pub accuracy : s.accuracy ≤ 12
  pub evasion : s.evasion ≤ 12

-- A move that was used, by a member that knows this many moves.
abbrev pub IsUsedMove : ℕ → UsedMove → Type 0
IsUsedMove count (Slot k) = IsBetween 1 count k
IsUsedMove count _ = Unit {0}

-- A count in a range, if there is one.
abbrev pub IsCount : ℕ → ℕ → Option ℕ → Type 0
IsCount low high None = Unit {0}
IsCount low high (Some n) = IsBetween low high n

abbrev pub IsDisabled : ℕ → Option DisabledSlot → Type 0
IsDisabled count None = Unit {0}
IsDisabled count (Some d) = IsBetween 1 count d.slot × IsBetween 1 8 d.turns

abbrev pub IsStoring : Option Storing → Type 0
IsStoring None = Unit {0}
IsStoring (Some b) = IsBetween 1 3 b.turns × (b.energy ≤ 65535)

-- What is underway belongs to a current move with this effect. So at most one thing is underway.
pub record IsUnderway (current : Effect) (u : Underway) : Type 0 where
  pub bide : IsStoring u.bide
  pub thrash : IsCount 1 3 u.thrash
  pub trapping : IsCount 0 4 u.trapping
  pub bide_tied : OnlyWith (bides current) (is_some u.bide)
  pub thrash_tied : OnlyWith (thrashes current) (is_some u.thrash)
  pub trapping_tied : OnlyWith (traps current) (is_some u.trapping)
  pub charging_tied : OnlyWith (charges current) u.charging
  pub recharge_tied : OnlyWith (recharges current) u.recharge
  pub rage_tied : OnlyWith (rages current) u.rage

-- The conditions that fit a current move with this effect, for a member that knows this many moves. Conditions that
-- aren't named here may have any value.
pub record IsConditions (current : Effect) (count : ℕ) (c : ActiveConditions) : Type 0 where
  pub underway : IsUnderway current c.underway
  pub confused : IsCount 1 5 c.confused
  pub substitute : IsCount 0 249 c.substitute
  pub bad_poison : IsCount 0 64 c.bad_poison
  pub disabled : IsDisabled count c.disabled

-- The effect of a move, by where the move comes from.
abbrev pub effect_of : UsedMove → List KnownMove → Effect
effect_of used moves = (move_at (number_in used moves)).effect

-- An active block that fits the moves of its member. Any types are valid, and any number of penalties, since the
-- stats of the bytes are computed from them.
pub record IsActive (moves : List KnownMove) (a : Active) : Type 0 where
  pub stages : IsStages a.stages
  pub current_move : IsUsedMove (length moves) a.current_move
  pub picked_move : IsUsedMove (length moves) a.picked_move
  pub kept_accuracy : a.kept_accuracy ≤ 255
  pub conditions : IsConditions (effect_of a.current_move moves) (length moves) a.conditions

-- Inside an update

pub record IsParty (rules : Rules) (t : Party) : Type 0 where
  pub members : IsMembersUnder rules t.members
  pub place : IsBetween 1 (length t.members) t.active.place
  pub active : IsActive (member_at t.active.place t).moves t.active

pub record IsField (terms : Terms) (f : Field) : Type 0 where
  pub one : IsParty terms.rules f.one
  pub two : IsParty terms.rules f.two
  pub last_damage : f.last_damage ≤ 65535
  pub turn : f.turn ≤ terms.limit
  pub outcome : IsOutcome f.outcome

-- Between two updates: the further properties

abbrev pub FallenAreHealthy : List Member → Type 0
FallenAreHealthy members = All (λ (m : Member). m.hp ≡ 0 → m.status ≡ Healthy) members

-- By whether rage or thrashing is on.
abbrev pub IsKept : Bool → ℕ → Type 0
IsKept true byte = 1 ≤ byte
IsKept false byte = byte ≡ 0

abbrev pub keeps_accuracy : Underway → Bool
keeps_accuracy u = u.rage || is_some u.thrash

abbrev pub KeepsAccuracy : Active → Type 0
KeepsAccuracy a = IsKept (keeps_accuracy a.conditions.underway) a.kept_accuracy

-- Turn, outcome and requests

abbrev pub lives_in : Side → Field → Bool
lives_in s f = any is_living (party s f).members

pub record AsksNothing (f : Field) : Type 0 where
  pub one : f.request_one ≡ requests.Pass
  pub two : f.request_two ≡ requests.Pass

-- By whether the active member of each side has fallen. A replacement is asked for only before the last turn.
abbrev pub IsAsked : Bool → Bool → Terms → Field → Type 0
IsAsked false false terms f = (f.request_one ≡ requests.Move) × (f.request_two ≡ requests.Move)
IsAsked one two terms f = (f.request_one ≡ switch_if one) × (f.request_two ≡ switch_if two) × (f.turn < terms.limit)

abbrev pub IsTie : Terms → Field → Type 0
IsTie terms f =
    ((lives_in One f ≡ false) × (lives_in Two f ≡ false))
    ⊎ ((f.turn ≡ terms.limit) × (lives_in One f ≡ true) × (lives_in Two f ≡ true))

abbrev pub StandsAs : Outcome → Terms → Field → Type 0
StandsAs outcomes.Ongoing terms f =
    (lives_in One f ≡ true) × (lives_in Two f ≡ true) × IsAsked (has_fallen_in One f) (has_fallen_in Two f) terms f
StandsAs outcomes.WinOne terms f = AsksNothing f × (lives_in One f ≡ true) × (lives_in Two f ≡ false)
StandsAs outcomes.WinTwo terms f = AsksNothing f × (lives_in One f ≡ false) × (lives_in Two f ≡ true)
StandsAs outcomes.Tie terms f = AsksNothing f × IsTie terms f
StandsAs (outcomes.Fault n) terms f = AsksNothing f

-- Before the first update, at turn 0, no member is out.
pub record IsUnstarted (terms : Terms) (f : Field) : Type 0 where
  pub members_one : IsMembersUnder terms.rules f.one.members
  pub members_two : IsMembersUnder terms.rules f.two.members
  pub fallen_one : FallenAreHealthy f.one.members
  pub fallen_two : FallenAreHealthy f.two.members
  pub first_one : is_living (member_at 1 f.one) ≡ true
  pub first_two : is_living (member_at 1 f.two) ≡ true
  pub nobody_one : f.one.active ≡ nobody_out
  pub nobody_two : f.two.active ≡ nobody_out
  pub last_damage : f.last_damage ≤ 65535
  pub turn : f.turn ≡ 0
  pub outcome : f.outcome ≡ outcomes.Ongoing
  pub requests : AsksNothing f

-- From turn 1 on.
pub record IsStarted (terms : Terms) (f : Field) : Type 0 where
  pub field : IsField terms f
  pub turn : 1 ≤ f.turn
  pub fallen_one : FallenAreHealthy f.one.members
  pub fallen_two : FallenAreHealthy f.two.members
  pub accuracy_one : KeepsAccuracy f.one.active
  pub accuracy_two : KeepsAccuracy f.two.active
  pub requests : StandsAs f.outcome terms f

-- A battle between two updates. Any number of draws is valid. The bytes keep the index and the numbers in use.
pub record IsState (s : State) : Type 0 where
  pub terms : IsTerms s.terms
  pub seed : IsStream (Link s.seed)
  pub field : IsUnstarted s.terms s.field ⊎ IsStarted s.terms s.field
