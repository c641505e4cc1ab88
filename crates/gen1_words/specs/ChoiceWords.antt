-- Choices from words (docs/PROGRAM.md, "Text in place of JSON").
use Rattle.std.specs.Prelude.{Bool, Err, List, None, Ok, Option, Result, Some, [], bytes_eq, codes, false, filter, if◌then◌else◌, nat_le, option_map, true, ℕ, ◌&&◌, ◌-◌, ◌==◌, ◌||◌, ◌∷◌}
use Rattle.std.specs.Option.{option_map_or}
use Rattle.gen1_machine.specs.OfferedChoices.{offered}
use Rattle.gen1_machine.specs.State.{Field, known_in, member_at, member_in, party}
use Rattle.gen1_machine.specs.Step.{is_among}
use Rattle.gen1_machine.specs.declared.side.Choice.{Choice}
use Rattle.gen1_machine.specs.declared.side.Choice.TheVariants.{Move, Pass, Switch}
use Rattle.gen1_machine.specs.declared.side.Side.{Side}
use Rattle.gen1_tables.specs.Types.{any}
use Rattle.gen1_text.specs.Ids.{id_of, move_called, species_called}
use Rattle.gen1_text.specs.MemberLines.{text_after}
use Rattle.gen1_words.specs.declared.words.WordsFault.{WordsFault}
use Rattle.gen1_words.specs.declared.words.WordsFault.TheVariants.{Ambiguous, NotOffered, Unknown}
use Rattle.gen1_words.specs.declared.words.ChoiceWords.{ChoiceWords}
use Rattle.gen1_words.specs.declared.words.ChoiceWords.TheVariants.{Exactly, MoveCalled, PlaceCalled, SlotCalled, SwitchTo}

-- What the letters and digits of a text say, in lower case

-- a slot without a name, or with the name of its move
abbrev pub slot_said : ℕ → List ℕ → Option ChoiceWords
slot_said slot [] = Some (Exactly (Move slot))
slot_said slot (b ∷ name) = option_map (SlotCalled slot) (move_called (b ∷ name))

-- a place without a name, or with the name of its species
abbrev pub place_said : ℕ → List ℕ → Option ChoiceWords
place_said place [] = Some (Exactly (Switch place))
place_said place (b ∷ name) = option_map (PlaceCalled place) (species_called (b ∷ name))

-- after "move": a slot, 0 to 4, or a name
abbrev pub move_said : List ℕ → Option ChoiceWords
move_said [] = None
move_said (b ∷ rest) =
    if nat_le 48 b && nat_le b 52 then slot_said (b - 48) rest else option_map MoveCalled (move_called (b ∷ rest))

-- after "switch": a place, 1 to 6, or a name
abbrev pub switch_said : List ℕ → Option ChoiceWords
switch_said [] = None
switch_said (b ∷ rest) =
    if nat_le 49 b && nat_le b 54 then place_said (b - 48) rest else option_map SwitchTo (species_called (b ∷ rest))

-- after neither: the name of a move
abbrev pub words_said : List ℕ → Option ChoiceWords
words_said letters =
    if bytes_eq (codes "pass") letters then Some (Exactly Pass)
    else option_map_or move_said (text_after (codes "move") letters)
    (option_map_or switch_said (text_after (codes "switch") letters) (option_map MoveCalled (move_called letters)))

-- The choice of a side that this is

abbrev pub has_in : Side → Field → ℕ → ℕ → Bool
has_in s f slot id = (known_in slot (member_in s f).moves).id == id

abbrev pub knows : Side → Field → ℕ → Bool
knows s f id = any (λ slot. has_in s f slot id) (1 ∷ 2 ∷ 3 ∷ 4 ∷ [])

-- whether a slot of the member that is out has a move; slot 0, which is left if no slot can be chosen, has each move that the
-- member knows, and Struggle
abbrev pub has_move : Side → Field → ℕ → ℕ → Bool
has_move s f slot id = if slot == 0 then id == 165 || knows s f id else has_in s f slot id

abbrev pub has_species : Side → Field → ℕ → ℕ → Bool
has_species s f place species = (member_at place (party s f)).species == species

-- whether a name fits a choice
abbrev pub fits : Side → Field → ChoiceWords → Choice → Bool
fits s f (MoveCalled id) (Move slot) = has_move s f slot id
fits s f (SwitchTo species) (Switch place) = has_species s f place species
fits s f _ _ = false

-- the only choice of a list
abbrev pub only : List Choice → Result Choice WordsFault
only [] = Err NotOffered
only (choice ∷ []) = Ok choice
only (_ ∷ _ ∷ _) = Err Ambiguous

abbrev pub if_offered : Bool → Choice → Result Choice WordsFault
if_offered true choice = Ok choice
if_offered false choice = Err NotOffered

-- A choice by its number is this choice, offered or not. By its number and a name it is this choice if it is offered and has the
-- name. By a name alone it is the only offered choice that has the name.
abbrev pub choice_of : Side → Field → ChoiceWords → Result Choice WordsFault
choice_of s f (Exactly choice) = Ok choice
choice_of s f (SlotCalled slot id) = if_offered (is_among (Move slot) (offered s f) && has_move s f slot id) (Move slot)
choice_of s f (PlaceCalled place species) =
    if_offered (is_among (Switch place) (offered s f) && has_species s f place species) (Switch place)
choice_of s f (MoveCalled id) = only (filter (fits s f (MoveCalled id)) (offered s f))
choice_of s f (SwitchTo species) = only (filter (fits s f (SwitchTo species)) (offered s f))

-- the choice that a text says
abbrev pub choice_due : Side → Field → List ℕ → Result Choice WordsFault
choice_due s f text = option_map_or (choice_of s f) (words_said (id_of text)) (Err Unknown)
