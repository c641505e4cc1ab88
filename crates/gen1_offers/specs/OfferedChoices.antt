-- What each side may choose, as a set: each choice with the condition for offering it (docs/MECHANICS.md, "Offered
-- choices").
use Rattle.std.specs.Prelude.{false, is_some, map, true, zero, ℕ, ◌≡◌, ◌≢◌, ◌≤◌, ◌⊎◌, ◌↔◌, Bool, List, [], if◌then◌else◌, nat_lt, not, ◌%◌, ◌&&◌, ◌++◌, ◌+◌, ◌/◌, ◌==◌, ◌∷◌, max, slice_index_or, ◌-◌, ◌<◌}
use Rattle.std.specs.List.Sorted.{IsStrictlyIncreasing}
use Rattle.gen1_layout.specs.Words.{Field, Side, conditions_in, is_asleep, is_frozen, is_living, known_in, member_at, member_in, other, party, request_of, status_in, underway_in}
use Rattle.gen1_machine.specs.declared.side.Choice.{Choice}
use Rattle.gen1_machine.specs.declared.terms.Outcome.TheVariants.{Ongoing}
use Rattle.gen1_machine.specs.declared.terms.Request.{Request}
use Rattle.gen1_machine.specs.Choices.{byte_of_choice}
use Rattle.gen1_machine.specs.OfferedChoices.{bars_slot, offered}
use Rattle.gen1_machine.specs.State.{State, active_in, Party}
use Rattle.gen1_machine.specs.Step.{is_among}
use Rattle.gen1_machine.specs.Valid.{IsState}
use Rattle.gen1_machine.specs.declared.side.Choice.TheVariants.{Move, Pass, Switch}
use Rattle.gen1_machine.specs.Layout.{number_of_bits}
use Rattle.gen1_stats.specs.Members.{nobody}
use Rattle.gen1_offers.specs.declared.bench.Bench.{Bench}
use Rattle.gen1_machine.specs.declared.side.Choice.TheVariants as choices
use Rattle.gen1_machine.specs.declared.terms.Request.TheVariants as requests

-- A living member that isn't out.
pub record MayComeOut (s : Side) (f : Field) (place : ℕ) : Type 0 where
  pub counted : 1 ≤ place
  pub lives : is_living (member_at place (party s f)) ≡ true
  pub waits : place ≢ (active_in s f).place

-- The member has no choice: Recharge, Rage, Thrash or Charging is on.
pub data IsCommitted (s : Side) (f : Field) : Type 0 where
  recharges : (underway_in s f).recharge ≡ true → IsCommitted s f
  rages : (underway_in s f).rage ≡ true → IsCommitted s f
  thrashes : is_some (underway_in s f).thrash ≡ true → IsCommitted s f
  charges : (underway_in s f).charging ≡ true → IsCommitted s f

-- The member has no slot: it is asleep or frozen, it has Bide or Trapping, or its foe has Trapping.
pub data HasNoSlot (s : Side) (f : Field) : Type 0 where
  sleeps : is_asleep (status_in s f) ≡ true → HasNoSlot s f
  freezes : is_frozen (status_in s f) ≡ true → HasNoSlot s f
  bides : is_some (underway_in s f).bide ≡ true → HasNoSlot s f
  traps : is_some (underway_in s f).trapping ≡ true → HasNoSlot s f
  is_trapped : is_some (underway_in (other s) f).trapping ≡ true → HasNoSlot s f

-- A slot that has PP and isn't disabled.
pub record IsUsable (s : Side) (f : Field) (slot : ℕ) : Type 0 where
  pub counted : 1 ≤ slot
  pub has_pp : 1 ≤ (known_in slot (member_in s f).moves).pp
  pub is_free : bars_slot (conditions_in s f).disabled slot ≡ false

-- Whether a move is offered. Move 0 is offered if the side has no choice, no slot, or no usable slot. Otherwise the usable
-- slots are offered.
abbrev pub MayMove : Side → Field → ℕ → Type 0
MayMove s f zero = IsCommitted s f ⊎ HasNoSlot s f ⊎ ((slot : ℕ) → IsUsable s f slot → ⊥)
MayMove s f slot = (IsCommitted s f → ⊥) × (HasNoSlot s f → ⊥) × IsUsable s f slot

-- By the request.
abbrev pub MayChoose : Request → Side → Field → Choice → Type 0
MayChoose requests.Pass s f choices.Pass = Unit {0}
MayChoose requests.Switch s f (choices.Switch place) = MayComeOut s f place
MayChoose requests.Move s f (choices.Move slot) = MayMove s f slot
MayChoose requests.Move s f (choices.Switch place) = (IsCommitted s f → ⊥) × MayComeOut s f place
MayChoose _ s f choice = ⊥

-- Once the battle is over, no choice is offered.
abbrev pub IsOffered : Side → Field → Choice → Type 0
IsOffered s f choice = (f.outcome ≡ Ongoing) × MayChoose (request_of s f) s f choice

-- The machine's list is this set: a choice is in it exactly if it is offered

abbrev pub OffersTheSet : Type 0
OffersTheSet = (s : Side) (f : Field) (choice : Choice) → (is_among choice (offered s f) ≡ true) ↔ IsOffered s f choice

-- The bytes of the list rise.
abbrev pub OffersRising : Type 0
OffersRising = (s : Side) (t : State) → IsState t → IsStrictlyIncreasing (map byte_of_choice (offered s t.field))

-- What a side may choose, as a number of twelve binary digits (docs/MECHANICS.md, "Offered choices"), and the members
-- that may come out, kept from update to update.

-- All choices, by rising bytes

abbrev pub moves_and_pass : List Choice
moves_and_pass = Pass ∷ Move 0 ∷ Move 1 ∷ Move 2 ∷ Move 3 ∷ Move 4 ∷ []

abbrev pub switches : List Choice
switches = Switch 1 ∷ Switch 2 ∷ Switch 3 ∷ Switch 4 ∷ Switch 5 ∷ Switch 6 ∷ []

abbrev pub all_choices : List Choice
all_choices = moves_and_pass ++ switches

-- Whether each of these choices is among those offered, as binary digits, from the lowest one.
abbrev pub digits_of : List Choice → List Choice → List Bool
digits_of choices list = map (λ (choice : Choice). is_among choice list) choices

unfoldable pub mask_of : List Choice → ℕ
mask_of list = number_of_bits (digits_of all_choices list)

abbrev pub offered_mask : State → Side → ℕ
offered_mask s side = mask_of (offered side s.field)

-- From digits to choices: those whose digits are 1

abbrev pub chosen_by : ℕ → List Choice → List Choice
chosen_by mask [] = []
chosen_by mask (choice ∷ choices) =
    if mask % 2 == 1 then choice ∷ chosen_by (mask / 2) choices else chosen_by (mask / 2) choices

unfoldable pub choices_in : ℕ → List Choice
choices_in mask = chosen_by mask all_choices

-- The parts that the code gathers

-- For each place, whether a living member is there.
abbrev pub living_of : Side → Field → List Bool
living_of s f =
    is_living (member_at 1 (party s f)) ∷ is_living (member_at 2 (party s f)) ∷ is_living (member_at 3 (party s f))
    ∷ is_living (member_at 4 (party s f)) ∷ is_living (member_at 5 (party s f)) ∷ is_living (member_at 6 (party s f)) ∷ []

abbrev pub is_usable : Side → Field → ℕ → Bool
is_usable s f slot = nat_lt 0 (known_in slot (member_in s f).moves).pp && not (bars_slot (conditions_in s f).disabled slot)

-- For each slot, whether it has PP and isn't disabled.
abbrev pub usable_of : Side → Field → List Bool
usable_of s f = is_usable s f 1 ∷ is_usable s f 2 ∷ is_usable s f 3 ∷ is_usable s f 4 ∷ []

-- Four bytes of at most 63, as binary digits: whether each is above 0.
abbrev pub AreDigitsOf : ℕ → ℕ → ℕ → ℕ → ℕ → Type 0
AreDigitsOf a b c d digits =
    a ≤ 63 → b ≤ 63 → c ≤ 63 → d ≤ 63 → digits ≡ number_of_bits (nat_lt 0 a ∷ nat_lt 0 b ∷ nat_lt 0 c ∷ nat_lt 0 d ∷ [])

-- Tests by rising numbers from one number on, with that of one number set to false.
abbrev pub passing : ℕ → ℕ → List Bool → List Bool
passing k out [] = []
passing k out (b ∷ bs) = (b && not (k == out)) ∷ passing (k + 1) out bs

-- The members of a side that may come out, kept from update to update.

-- For any bytes.
pub record IsInRange (b : Bench) : Type 0 where
  pub low : 1 ≤ b.out
  pub high : b.out ≤ 6
  pub six : b.digits < 64

-- The place of the member that is out, or 1, and the digits of the living members without that one.
pub record IsBench (s : Side) (f : Field) (b : Bench) : Type 0 where
  pub out : b.out ≡ max 1 (active_in s f).place
  pub digits : b.digits ≡ number_of_bits (passing 1 b.out (living_of s f))

-- How an update changes a party, by the side's choice

-- Without a switch the same member is out. Before the first update that is nobody, and then the first member.
abbrev pub KeepsOut : Choice → Party → Party → Type 0
KeepsOut (Switch place) old new = 1 ≤ new.active.place
KeepsOut choice old new = max 1 new.active.place ≡ max 1 old.active.place

-- Only the members that are out before or after it may change.
pub record Follows (choice : Choice) (old new : Party) : Type 0 where
  pub out : KeepsOut choice old new
  pub others : (i : ℕ) → i ≢ (old.active.place - 1) → i ≢ (new.active.place - 1)
      → slice_index_or new.members i nobody ≡ slice_index_or old.members i nobody

-- Both parties.
pub record BothFollow (one two : Choice) (old new : Field) : Type 0 where
  pub first : Follows one old.one new.one
  pub second : Follows two old.two new.two
