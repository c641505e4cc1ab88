-- What the code of an update shows: its bytes, the events so far and the generator represent a battle in the middle
-- of an update. An operation is described by its phase (`Operations.antt`).
use Rattle.std.specs.Prelude.{None, Option, Some, is_some, length, ℕ, ◌+◌, ◌≤◌, List, ◌≡◌, Bool, false, [], ◌∷◌}
use Rattle.gen1_stats.specs.Members.{IsBetween, Member}
use Rattle.gen1_machine.specs.declared.side.DisabledSlot.{DisabledSlot}
use Rattle.gen1_machine.specs.Rules.{bit_of, Rules}
use Rattle.gen1_machine.specs.Conditions.{ActiveConditions, Storing, Underway}
use Rattle.gen1_machine.specs.State.{member_at, Active, Field, Party, Terms, State, nobody_out}
use Rattle.gen1_machine.specs.Valid.{IsCount, IsMembersUnder, IsOutcome, IsStages, IsUsedMove, IsState, IsTerms}
use Rattle.gen1_rolls.specs.Streams.{IsStream, Link, Stream}
use Rattle.gen1_machine.specs.Layout.{active_block_of, header_block, member_blocks}
use Rattle.gen1_layout.specs.Parts.{Parts, SideParts}
use Rattle.gen1_rolls.specs.Draws.{Drawing, Source, StandsIn}
use Rattle.gen1_machine.specs.declared.event.Event.{Event}
use Rattle.gen1_machine.specs.Progress.{Action, Progress}
use Rattle.gen1_tables.specs.declared.types.Element.{Element}
use Rattle.gen1_tables.specs.declared.effect.Stat.TheVariants.{Attack, Defense, Special, Speed}
use Rattle.gen1_machine.specs.CurrentStats.{now}

-- What a field has to keep to so that its bytes determine it (docs/LAYOUT.md). Each number is in its range, and at
-- most one of Bide, thrashing and trapping is on, since their turns share a byte.
--
-- This is weaker than `IsField` for a battle inside an update, which also ties conditions to the current move. Every
-- write of a number in its range keeps it.

abbrev pub IsStorableBide : Option Storing → Type 0
IsStorableBide None = Unit {0}
IsStorableBide (Some b) = (b.turns ≤ 3) × (b.energy ≤ 65535)

abbrev pub IsStorableDisabled : ℕ → Option DisabledSlot → Type 0
IsStorableDisabled count None = Unit {0}
IsStorableDisabled count (Some d) = IsBetween 1 count d.slot × (d.turns ≤ 8)

pub record IsStorableUnderway (u : Underway) : Type 0 where
  pub bide : IsStorableBide u.bide
  pub thrash : IsCount 0 3 u.thrash
  pub trapping : IsCount 0 4 u.trapping
  pub alone : bit_of (is_some u.bide) + bit_of (is_some u.thrash) + bit_of (is_some u.trapping) ≤ 1

-- For a member that knows this many moves.
pub record IsStorableConditions (count : ℕ) (c : ActiveConditions) : Type 0 where
  pub underway : IsStorableUnderway c.underway
  pub confused : IsCount 0 5 c.confused
  pub substitute : IsCount 0 249 c.substitute
  pub bad_poison : IsCount 0 64 c.bad_poison
  pub disabled : IsStorableDisabled count c.disabled

pub record IsStorableActive (count : ℕ) (a : Active) : Type 0 where
  pub stages : IsStages a.stages
  pub current_move : IsUsedMove count a.current_move
  pub picked_move : IsUsedMove count a.picked_move
  pub kept_accuracy : a.kept_accuracy ≤ 255
  pub conditions : IsStorableConditions count a.conditions

pub record IsStorableParty (rules : Rules) (t : Party) : Type 0 where
  pub members : IsMembersUnder rules t.members
  pub place : IsBetween 1 (length t.members) t.active.place
  pub active : IsStorableActive (length (member_at t.active.place t).moves) t.active

pub record IsStorable (terms : Terms) (f : Field) : Type 0 where
  pub one : IsStorableParty terms.rules f.one
  pub two : IsStorableParty terms.rules f.two
  pub last_damage : f.last_damage ≤ 65535
  pub turn : f.turn ≤ terms.limit
  pub outcome : IsOutcome f.outcome

-- What the parts of a packed battle represent (docs/LAYOUT.md, "The 384 bytes of a battle"): a state between two
-- updates (`Stands`), and a field inside an update (`Within`). Both use the machine's own packing, block by block.

-- The packing, block by block. The blocks, joined, are `bytes_of` of the machine

abbrev pub side_blocks : Party → SideParts
side_blocks t = record { members = member_blocks t.members; active = active_block_of t }

abbrev pub blocks_of : State → Parts
blocks_of s = record { header = header_block s; one = side_blocks s.field.one; two = side_blocks s.field.two }

-- A packed battle represents a state.
pub record Stands (p : Parts) (s : State) : Type 0 where
  pub same : p ≡ blocks_of s
  pub valid : IsState s

-- What no write to a field changes: the terms, the seed, and the number of draws in the bytes.
pub record Setting : Type 0 where
  pub terms : Terms
  pub seed : List ℕ
  pub drawn : ℕ

abbrev pub setting_of : State → Setting
setting_of s = record { terms = s.terms; seed = s.seed; drawn = s.drawn }

abbrev pub state_in : Setting → Field → State
state_in g f = record { terms = g.terms; field = f; seed = g.seed; drawn = g.drawn }

-- Inside an update, with a member out on both sides, the parts represent a field.
pub record Within (g : Setting) (p : Parts) (f : Field) : Type 0 where
  pub same : p ≡ blocks_of (state_in g f)
  pub terms : IsTerms g.terms
  pub seed : IsStream (Link g.seed)
  pub storable : IsStorable g.terms f

-- `Within` while a side may have no member out, as before the first update.
pub record Packs (g : Setting) (p : Parts) (f : Field) : Type 0 where
  pub same : p ≡ blocks_of (state_in g f)
  pub terms : IsTerms g.terms
  pub seed : IsStream (Link g.seed)
  pub one : IsMembersUnder g.terms.rules f.one.members
  pub two : IsMembersUnder g.terms.rules f.two.members
  pub last_damage : f.last_damage ≤ 65535
  pub turn : f.turn ≤ g.terms.limit
  pub outcome : IsOutcome f.outcome

-- A statement about a list of events, such as that exactly these were written. The type that receives the events
-- defines its own (gen1_events, `EventSink`).
abbrev pub Telling : Type 1
Telling = List Event → Type 0

-- These events and no others, for lemmas that don't depend on what receives them.
abbrev pub Told : List Event → Telling
Told events told = events ≡ told

-- What is known in addition to the bytes and the events.
pub record Frame : Type 0 where
  pub setting : Setting
  pub stream : Stream
  pub drawn : ℕ  -- draws so far
  pub skips : Bool
  pub action : Action

-- The parts represent p, its events have been written, and `stopped` says whether p has stopped.
pub record Shows (g : Frame) (parts : Parts) (events : Telling) (stopped : Bool) (p : Progress) : Type 0 where
  pub within : Within g.setting parts p.field
  pub written : events p.events
  pub ends : p.stopped ≡ stopped
  pub stream : p.stream ≡ g.stream
  pub drawn : p.drawn ≡ g.drawn
  pub skips : p.skips ≡ g.skips
  pub action : p.action ≡ g.action

-- `Shows` while a side may have no member out. Nothing stops there.
pub record ShowsPacked (g : Frame) (parts : Parts) (events : Telling) (p : Progress) : Type 0 where
  pub packs : Packs g.setting parts p.field
  pub written : events p.events
  pub ends : p.stopped ≡ false
  pub stream : p.stream ≡ g.stream
  pub drawn : p.drawn ≡ g.drawn
  pub skips : p.skips ≡ g.skips
  pub action : p.action ≡ g.action

-- `Shows` inside an update with a generator, which is at the place of its source that p has drawn to. The draws of the
-- frame don't matter then.
pub record ShowsDrawn {A : Type 0} (d : Drawing A) (source : Source A) (g : Frame) (parts : Parts) (events : Telling) (now : A) (stopped : Bool) (p : Progress) : Type 0 where
  pub shows : Shows (record g { stream = source.stream; drawn = p.drawn }) parts events stopped p
  pub stands : StandsIn d source p.drawn now

-- A member that is sent out, before anything happens to it (docs/MECHANICS.md, "Switching in").

-- At a place from 1, with two types, and after this many halvings of Attack and quarterings of Speed.
abbrev pub sent_as : ℕ → Element → Element → ℕ → ℕ → Active
sent_as place first second halved quartered = record nobody_out {
  place = place;
  first_type = first;
  second_type = second;
  attack_penalties = halved;
  speed_penalties = quartered;
}

-- The four current stats.
abbrev pub stats_of : Member → Active → List ℕ
stats_of m a = now Attack m a ∷ now Defense m a ∷ now Speed m a ∷ now Special m a ∷ []

-- The four own stats of a member.
abbrev pub own_stats_of : Member → List ℕ
own_stats_of m = m.attack ∷ m.defense ∷ m.speed ∷ m.special ∷ []
