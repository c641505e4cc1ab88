-- What is offered before the first update, and the letters of a text.
use Rattle.std.proofs.Common.{Bool, Err, List, None, Ok, Option, Result, Some, [], ap, arith, cond, false, filter, if◌then◌else◌, inl, inr, option_map, refl, subst, sym, true, ℕ, ◌&&◌, ◌==◌, ◌≡◌, ◌∙◌, ◌∷◌, ◌⊎◌}
use Rattle.gen1_layout.proofs.Storing.{within_of}
use Rattle.gen1_layout.specs.Parts.{Parts}
use Rattle.gen1_layout.specs.Shows.{Stands, Within, setting_of}
use Rattle.gen1_machine.specs.OfferedChoices.{offered, offered_for}
use Rattle.gen1_machine.specs.State.{Field, State, is_over, request_of}
use Rattle.gen1_machine.specs.Step.{is_among}
use Rattle.gen1_machine.specs.Valid.{IsStarted, IsUnstarted}
use Rattle.gen1_machine.specs.declared.side.Choice.{Choice}
use Rattle.gen1_machine.specs.declared.side.Choice.TheVariants.{Move, Pass, Switch}
use Rattle.gen1_machine.specs.declared.side.Side.{Side}
use Rattle.gen1_machine.specs.declared.terms.Outcome.{Outcome}
use Rattle.gen1_machine.specs.declared.terms.Outcome.TheVariants as outcomes
use Rattle.gen1_machine.specs.declared.terms.Request.{Request}
use Rattle.gen1_machine.specs.declared.terms.Request.TheVariants as requests
use Rattle.gen1_offers.proofs.OfferedSet.{asks_nothing}
use Rattle.gen1_text.specs.Ids.{move_called, species_called}
use Rattle.gen1_words.specs.ChoiceWords.{choice_of, fits, if_offered, only, place_said, slot_said}
use Rattle.gen1_words.specs.declared.words.WordsFault.{WordsFault}
use Rattle.gen1_words.specs.declared.words.WordsFault.TheVariants.{NotOffered}
use Rattle.gen1_words.specs.declared.words.ChoiceWords.{ChoiceWords}
use Rattle.gen1_words.specs.declared.words.ChoiceWords.TheVariants.{Exactly, MoveCalled, PlaceCalled, SlotCalled, SwitchTo}

-- from turn 1 on both sides have a member out
pub within_begun : {p : Parts} {s : State} → Stands p s → (s.field.turn ≡ 0 → ⊥) → Within (setting_of s) p s.field
within_begun {p = p} {s = s} h begun = by h.valid.field
  where
    by : IsUnstarted s.terms s.field ⊎ IsStarted s.terms s.field → Within (setting_of s) p s.field
    by (inl u) = absurd (begun u.turn)
    by (inr v) = within_of p s h v.field

-- at turn 0 only Pass is offered
offered_at_0 : (side : Side) (s : State) → IsUnstarted s.terms s.field → offered side s.field ≡ Pass ∷ []
unfolding offered
offered_at_0 side s u =
    ap (λ (o : Outcome). if is_over o then [] else offered_for (request_of side s.field) side s.field) u.outcome
    ∙ ap (λ (r : Request). offered_for r side s.field) (asks_nothing side s.terms s.field u)

none_called : (side : Side) (f : Field) (words : ChoiceWords) → offered side f ≡ Pass ∷ [] → ((choice : Choice) → words ≡ Exactly choice → ⊥)
    → choice_of side f words ≡ Err NotOffered
none_called side f (Exactly choice) e other = absurd (other choice refl)
none_called side f (MoveCalled id) e other = ap (λ (list : List Choice). only (filter (fits side f (MoveCalled id)) list)) e
none_called side f (SlotCalled slot id) e other = rw e refl
none_called side f (SwitchTo species) e other = ap (λ (list : List Choice). only (filter (fits side f (SwitchTo species)) list)) e
none_called side f (PlaceCalled place species) e other = rw e refl

pub not_begun : {p : Parts} {s : State} (side : Side) (words : ChoiceWords) → Stands p s → s.field.turn ≡ 0
    → ((choice : Choice) → words ≡ Exactly choice → ⊥) → choice_of side s.field words ≡ Err NotOffered
not_begun {p = p} {s = s} side words h turn other = by h.valid.field
  where
    by : IsUnstarted s.terms s.field ⊎ IsStarted s.terms s.field → choice_of side s.field words ≡ Err NotOffered
    by (inl u) = none_called side s.field words (offered_at_0 side s u) other
    by (inr v) = none_called side s.field words (let z = turn in absurd (omega (arith, z, v.turn))) other

-- a number and a name, of an offered choice that has the name, and of others

pub called : (is_offered has_name : Bool) (choice : Choice) → is_offered ≡ true → has_name ≡ true → Ok choice ≡ if_offered (is_offered && has_name) choice
called is_offered has_name choice a b = rw (a, b) refl

pub not_offered : (is_offered has_name : Bool) (choice : Choice) → is_offered ≡ false → Err NotOffered ≡ if_offered (is_offered && has_name) choice
not_offered is_offered has_name choice a = rw a refl

pub not_named : (is_offered has_name : Bool) (choice : Choice) → has_name ≡ false → Err NotOffered ≡ if_offered (is_offered && has_name) choice
not_named true has_name choice b = rw b refl
not_named false has_name choice b = refl

-- a number alone, and a number with a name

pub slot_unnamed : (slot : ℕ) (letters : List ℕ) → letters ≡ [] → slot_said slot letters ≡ Some (Exactly (Move slot))
slot_unnamed slot letters e = rw e refl

pub slot_named : (slot : ℕ) (letters : List ℕ) (b : ℕ) (rest : List ℕ) → letters ≡ b ∷ rest
    → slot_said slot letters ≡ option_map (SlotCalled slot) (move_called letters)
slot_named slot letters b rest e = rw e refl

pub place_unnamed : (place : ℕ) (letters : List ℕ) → letters ≡ [] → place_said place letters ≡ Some (Exactly (Switch place))
place_unnamed place letters e = rw e refl

pub place_named : (place : ℕ) (letters : List ℕ) (b : ℕ) (rest : List ℕ) → letters ≡ b ∷ rest
    → place_said place letters ≡ option_map (PlaceCalled place) (species_called letters)
place_named place letters b rest e = rw e refl

-- a name alone

pub move_alone : (side : Side) (f : Field) (words : ChoiceWords) (id : ℕ) → words ≡ MoveCalled id
    → only (filter (fits side f words) (offered side f)) ≡ choice_of side f words
move_alone side f words id e = rw e refl

pub species_alone : (side : Side) (f : Field) (words : ChoiceWords) (species : ℕ) → words ≡ SwitchTo species
    → only (filter (fits side f words) (offered side f)) ≡ choice_of side f words
species_alone side f words species e = rw e refl
