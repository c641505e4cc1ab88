-- The laws of reading: bytes pass a test exactly if they represent what the test is about (docs/LAYOUT.md,
-- "Loading").
use Rattle.std.specs.Prelude.{List, length, slice_index, slice_index_or, slice_range, ℕ, ◌++◌, ◌-◌, ◌<◌, ◌≡◌, ◌≤◌, true, ◌↔◌}
use Rattle.gen1_rolls.specs.Streams.{IsStream, Link}
use Rattle.gen1_stats.specs.declared.member.Status.TheVariants.{Healthy}
use Rattle.gen1_stats.specs.Members.{nobody, IsBetween, Member, is_living, IsMember}
use Rattle.gen1_machine.specs.Rules.{Rules, rules_of}
use Rattle.gen1_machine.specs.State.{Active, State, member_at}
use Rattle.gen1_machine.specs.Layout.{active_block, bytes_of, header_block, member_block, member_blocks}
use Rattle.gen1_machine.specs.Valid.{FallenAreHealthy, IsMemberUnder, IsMembersUnder, IsActive, IsOutcome, IsState, IsTerms, KeepsAccuracy, AsksNothing, IsField, StandsAs}
use Rattle.gen1_layout.specs.Parts.{Parts}
use Rattle.gen1_layout.specs.Shows.{Stands}
use Rattle.gen1_layout.specs.Loading.{version_three, PassesVersion, active_bytes, places_of, header_of, PassesOfActives, PassesOfMembers, PassesOfRequests, PassesOfStats, PassesHeader, PassesMembers, PassesActive, PassesRequests, PassesStats}
use Rattle.gen1_machine.specs.declared.terms.Outcome.TheVariants as outcomes

-- What bytes represent, part by part (docs/LAYOUT.md, "Loading"): the part of a valid state whose packing they are.

abbrev pub AreBytes : List ℕ → Type 0
AreBytes bytes = (k : ℕ) → slice_index bytes k < 256

-- The header of a state. The sides of the state don't matter.
pub record StandsForHeader (header : List ℕ) : Type 0 where
  pub state : State
  pub terms : IsTerms state.terms
  pub seed : IsStream (Link state.seed)
  pub turn : state.field.turn ≤ state.terms.limit
  pub last_damage : state.field.last_damage ≤ 65535
  pub outcome : IsOutcome state.field.outcome
  pub same : header ≡ header_block state

-- One member.
pub record StandsForMember (rules : Rules) (block : List ℕ) : Type 0 where
  pub member : Member
  pub valid : IsMemberUnder rules member
  pub fallen : member.hp ≡ 0 → member.status ≡ Healthy
  pub same : block ≡ member_block member

-- The members of a side.
pub record StandsForMembers (rules : Rules) (side : List ℕ) : Type 0 where
  pub members : List Member
  pub valid : IsMembersUnder rules members
  pub fallen : FallenAreHealthy members
  pub same : places_of side ≡ member_blocks members

-- The member that is out, for a side with these members.
abbrev pub out_of : List Member → Active → Member
out_of members a = slice_index_or members (a.place - 1) nobody

-- An active block without its current stats.
abbrev pub beside_stats : List ℕ → List ℕ
beside_stats block = slice_range block 0 9 ++ slice_range block 17 36

-- The active block of a member that is out. Current stats and penalties don't matter.
pub record StandsForActive (members : List Member) (side : List ℕ) : Type 0 where
  pub active : Active
  pub place : IsBetween 1 (length members) active.place
  pub valid : IsActive (out_of members active).moves active
  pub kept : KeepsAccuracy active
  pub same : beside_stats (active_bytes side) ≡ beside_stats (active_block (out_of members active) active)

-- The current stats: those of this active member after some number of penalties.
pub record StandsForStats (member : Member) (a : Active) (block : List ℕ) : Type 0 where
  pub halved : ℕ
  pub quartered : ℕ
  pub same : block ≡ active_block member (record a { attack_penalties = halved; speed_penalties = quartered })

-- The whole: the packing of a valid state.
pub record StandsFor (form : List ℕ) : Type 0 where
  pub state : State
  pub valid : IsState state
  pub same : form ≡ bytes_of state

-- Bytes of one of the three versions whose form of version 3 represents a state.
pub record IsBattle (bytes : List ℕ) : Type 0 where
  pub full : length bytes ≡ 384
  pub version : IsBetween 1 3 (slice_index bytes 0)
  pub keeps : PassesVersion bytes
  pub stands : StandsFor (version_three bytes)

-- A loaded battle.
pub record StandsForSome (loaded : Parts) : Type 0 where
  pub state : State
  pub stands : Stands loaded state

-- The test of the header, of version 3.
abbrev pub HeadersStand : Type 0
HeadersStand = (header : List ℕ) → length header ≡ 24 → AreBytes header → slice_index header 0 ≡ 3
    → PassesHeader header ↔ StandsForHeader header

-- The test of the members.
abbrev pub MembersStand : Type 0
MembersStand = (rules : ℕ) (side : List ℕ) → length side ≡ 180 → AreBytes side
    → PassesMembers rules side ↔ StandsForMembers (rules_of rules) side

-- The test of an active block from turn 1 on, for a side with these members.
abbrev pub ActivesStand : Type 0
ActivesStand = (rules : ℕ) (side : List ℕ) (members : List Member) → length side ≡ 180 → AreBytes side
    → IsMembersUnder (rules_of rules) members → places_of side ≡ member_blocks members
    → PassesActive side ↔ StandsForActive members side

-- The test of the current stats, if the rest of the block represents this active member.
abbrev pub StatsStand : Type 0
StatsStand = (member : Member) (a : Active) (block : List ℕ) → length block ≡ 36 → AreBytes block → IsMember member
    → beside_stats block ≡ beside_stats (active_block member a)
    → PassesStats (member_block member) block ↔ StandsForStats member a block

-- The test of turn, outcome and requests before the first turn, if the rest represents this state.
abbrev pub StartsStand : Type 0
StartsStand = (s : State) (header one two : List ℕ) → header ≡ header_block s → IsOutcome s.field.outcome → s.field.turn ≡ 0
    → IsMembersUnder s.terms.rules s.field.one.members → IsMembersUnder s.terms.rules s.field.two.members
    → places_of one ≡ member_blocks s.field.one.members → places_of two ≡ member_blocks s.field.two.members
    → PassesRequests header one two
    ↔ ((s.field.outcome ≡ outcomes.Ongoing) × AsksNothing s.field × (is_living (member_at 1 s.field.one) ≡ true)
    × (is_living (member_at 1 s.field.two) ≡ true))

-- The test of turn, outcome and requests from turn 1 on.
abbrev pub RequestsStand : Type 0
RequestsStand = (s : State) (header one two : List ℕ) → header ≡ header_block s → IsTerms s.terms → IsField s.terms s.field
    → 1 ≤ s.field.turn → places_of one ≡ member_blocks s.field.one.members → places_of two ≡ member_blocks s.field.two.members
    → slice_index one 144 ≡ s.field.one.active.place → slice_index two 144 ≡ s.field.two.active.place
    → PassesRequests header one two ↔ StandsAs s.field.outcome s.terms s.field

-- All tests together, for a form of version 3.
pub record PassesForm (form : List ℕ) : Type 0 where
  pub header : PassesHeader (header_of form)
  pub members : PassesOfMembers form
  pub actives : PassesOfActives form
  pub stats : PassesOfStats form
  pub requests : PassesOfRequests form

-- The packings of valid states are exactly the forms that pass them.
abbrev pub FormsStand : Type 0
FormsStand = (form : List ℕ) → length form ≡ 384 → AreBytes form → slice_index form 0 ≡ 3 → PassesForm form ↔ StandsFor form
