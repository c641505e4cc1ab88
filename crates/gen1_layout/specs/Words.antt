-- Words for the clauses of contracts, one for each common statement, and reexports of what the clauses are about.
use Rattle.std.specs.Prelude.{bit_or, unwrap_or, ◌^◌, ◌||◌, ◌≡◌, ◌∷◌, ◌+◌, ◌<◌, ◌≤◌}
use Rattle.gen1_machine.specs.Layout.{disabled_slot, disabled_turns, energy_of, high_byte, low_byte, turns_of, condition_bits}
use Rattle.gen1_layout.specs.Parts.{Parts}
pub use Rattle.std.specs.Prelude.{Bool, IsTrue, List, None, Option, Some, [], false, is_some, length, map, nat_le, nat_lt, not, slice_index_or, slice_set, true, zero, ℕ}
pub use Rattle.gen1_stats.specs.Members.{IsBetween, Member, is_asleep, is_frozen, is_living, is_paralysed}
pub use Rattle.gen1_machine.specs.declared.side.Side.{Side}
pub use Rattle.gen1_machine.specs.declared.event.Event.{Event}
pub use Rattle.gen1_machine.specs.Sides.{other}
pub use Rattle.gen1_machine.specs.Conditions.{ActiveConditions}
pub use Rattle.gen1_machine.specs.State.{Active, Field, active_in, changed_active, changed_conditions, changed_member, conditions_in, health_in, healed_by, hurt_by, kind_of, known_in, member_at, member_in, party, request_of, status_in, underway_in, who_in, with_last_damage, with_next_turn, with_outcome, with_requests}
pub use Rattle.gen1_machine.specs.CurrentStats.{has_number, now, now_in, stage_of, unmodified, with_penalty_of, with_stage}
pub use Rattle.gen1_machine.specs.Moves.{move_at}
pub use Rattle.gen1_machine.specs.Progress.{Phase, Progress, conditions, draw, status_of, stop, ◌▸◌}
pub use Rattle.gen1_layout.specs.Shows.{Packs, Setting, Within, Frame, Shows, ShowsDrawn, Telling, Told}

-- Condition bits (docs/LAYOUT.md, "Condition bits"): several of them by their places, the numbers with them, and what
-- a change of one bit leaves as it is.

-- Two sets of conditions have the same numbers.
pub record SameNumbers (c d : ActiveConditions) : Type 0 where
  pub bide : c.underway.bide ≡ d.underway.bide
  pub thrash : c.underway.thrash ≡ d.underway.thrash
  pub trapping : c.underway.trapping ≡ d.underway.trapping
  pub confused : c.confused ≡ d.confused
  pub substitute : c.substitute ≡ d.substitute
  pub bad_poison : c.bad_poison ≡ d.bad_poison
  pub disabled : c.disabled ≡ d.disabled

-- The bytes of the active block that hold these numbers, from byte 21 on.
abbrev pub count_bytes : ActiveConditions → List ℕ
count_bytes c =
    unwrap_or c.substitute 0 ∷ unwrap_or c.confused 0 ∷ disabled_slot c.disabled ∷ disabled_turns c.disabled ∷ unwrap_or c.bad_poison 0
    ∷ turns_of c.underway ∷ low_byte (energy_of c.underway.bide) ∷ high_byte (energy_of c.underway.bide) ∷ []

-- A set of conditions as a number, by the places of their bits.
abbrev pub set_at : List ℕ → ℕ
set_at [] = 0
set_at (place ∷ places) = bit_or (set_at places) (2 ^ place)

-- Whether a value is true already, or one of the bits at these places is set.
abbrev pub holds_or_any_at : Bool → List ℕ → List Bool → Bool
holds_or_any_at holds [] bits = holds
holds_or_any_at holds (place ∷ places) bits = holds_or_any_at (holds || slice_index_or bits place false) places bits

abbrev pub any_at : List ℕ → List Bool → Bool
any_at places bits = holds_or_any_at false places bits

-- Reading: whenever the parts represent a field, a value is this value of the field

abbrev pub Reads : {A : Type 0} → Parts → A → (Field → A) → Type 0
Reads parts value read = (g : Setting) (f : Field) → Within g parts f → value ≡ read f

-- `Reads` for a value of the setting, which no write to a field changes.
abbrev pub ReadsSetting : {A : Type 0} → Parts → A → (Setting → A) → Type 0
ReadsSetting parts value read = (g : Setting) (f : Field) → Within g parts f → value ≡ read g

-- `Reads` for a field in which a member may not be out yet.
abbrev pub ReadsPacked : {A : Type 0} → Parts → A → (Field → A) → Type 0
ReadsPacked parts value read = (g : Setting) (f : Field) → Packs g parts f → value ≡ read f

abbrev pub ReadsPackedSetting : {A : Type 0} → Parts → A → (Setting → A) → Type 0
ReadsPackedSetting parts value read = (g : Setting) (f : Field) → Packs g parts f → value ≡ read g

-- Changing: whenever the parts represented a field, they now represent the changed field

abbrev pub Changes : Parts → Parts → (Field → Field) → Type 0
Changes old new change = (g : Setting) (f : Field) → Within g old f → Within g new (change f)

abbrev pub ChangesPacked : Parts → Parts → (Field → Field) → Type 0
ChangesPacked old new change = (g : Setting) (f : Field) → Packs g old f → Packs g new (change f)

-- Writing a part of a side: the same for each change that gives this new value for the old one. The forms with `If`
-- have a premise about the field

abbrev pub WritesMember : Side → Parts → Parts → (Member → Member) → Type 0
WritesMember s old new written =
    (g : Setting) (f : Field) (change : Member → Member) → Within g old f
    → change (member_in s f) ≡ written (member_in s f) → Within g new (changed_member s change f)

abbrev pub WritesMemberIf : Side → Parts → Parts → (Member → Member) → (Setting → Field → Type 0) → Type 0
WritesMemberIf s old new written fits =
    (g : Setting) (f : Field) (change : Member → Member) → Within g old f
    → change (member_in s f) ≡ written (member_in s f) → fits g f → Within g new (changed_member s change f)

abbrev pub WritesActive : Side → Parts → Parts → (Active → Active) → Type 0
WritesActive s old new written =
    (g : Setting) (f : Field) (change : Active → Active) → Within g old f
    → change (active_in s f) ≡ written (active_in s f) → Within g new (changed_active s change f)

abbrev pub WritesActiveIf : Side → Parts → Parts → (Active → Active) → (Setting → Field → Type 0) → Type 0
WritesActiveIf s old new written fits =
    (g : Setting) (f : Field) (change : Active → Active) → Within g old f
    → change (active_in s f) ≡ written (active_in s f) → fits g f → Within g new (changed_active s change f)

abbrev pub WritesConditions : Side → Parts → Parts → (ActiveConditions → ActiveConditions) → Type 0
WritesConditions s old new written =
    (g : Setting) (f : Field) (change : ActiveConditions → ActiveConditions) → Within g old f
    → change (conditions_in s f) ≡ written (conditions_in s f) → Within g new (changed_conditions s change f)

abbrev pub WritesConditionsIf : Side → Parts → Parts → (ActiveConditions → ActiveConditions) → (Setting → Field → Type 0) → Type 0
WritesConditionsIf s old new written fits =
    (g : Setting) (f : Field) (change : ActiveConditions → ActiveConditions) → Within g old f
    → change (conditions_in s f) ≡ written (conditions_in s f) → fits g f → Within g new (changed_conditions s change f)

-- One condition of the member that is out, or several of them, as numbers of their bits. In each word, k is the place of a
-- bit

-- The value is whether this condition is on.
abbrev pub ReadsFlag : Side → Parts → ℕ → Bool → Type 0
ReadsFlag s parts which value =
    (k : ℕ) → which ≡ 2 ^ k → Reads parts value λ f. slice_index_or (condition_bits (conditions_in s f)) k false

-- The value is whether at least one of these conditions is on.
abbrev pub ReadsAny : Side → Parts → ℕ → Bool → Type 0
ReadsAny s parts which value =
    (places : List ℕ) → which ≡ set_at places → Reads parts value λ f. any_at places (condition_bits (conditions_in s f))

-- This condition, which has no number, is now on or off, and nothing else has changed.
abbrev pub WritesFlag : Side → Parts → Parts → ℕ → Bool → Type 0
WritesFlag s old new which on =
    (k : ℕ) → which ≡ 2 ^ k → k < 17 → (g : Setting) (f : Field) (change : ActiveConditions → ActiveConditions) → Within g old f
    → condition_bits (change (conditions_in s f)) ≡ slice_set (condition_bits (conditions_in s f)) k on
    → SameNumbers (change (conditions_in s f)) (conditions_in s f) → Within g new (changed_conditions s change f)

-- Events: there is room for n more, at most n were added, or none were

abbrev pub HasRoom : {S : Type 0} → (S → ℕ) → ℕ → S → Type 0
HasRoom room n events = n ≤ room events

abbrev pub AddsAtMost : {S : Type 0} → (S → ℕ) → ℕ → S → S → Type 0
AddsAtMost room n old new = room old ≤ room new + n

abbrev pub AddsNone : {S : Type 0} → (S → ℕ) → S → S → Type 0
AddsNone room old new = room old ≡ room new
