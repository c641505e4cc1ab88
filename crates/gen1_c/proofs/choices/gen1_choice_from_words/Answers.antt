use Rattle.std.proofs.Common.{Bool, Err, List, None, Ok, Option, Result, Some, [], ap, arith, codes, false, if◌then◌else◌, nat_le, option_map, refl, subst, sym, true, ℕ, ◌&&◌, ◌++◌, ◌+◌, ◌-◌, ◌==◌, ◌≡◌, ◌≤◌, ◌∙◌, ◌∷◌}
use Rattle.std.proofs.lemmas.Bool.Decides.{nat_tests}
use Rattle.std.proofs.lemmas.Str.Ascii.{lowercase_is}
use Rattle.std.specs.Option.{option_map_or}
use Rattle.std.specs.Char.{is_ascii_alphanumeric, to_ascii_lowercase}
use Rattle.gen1_tables.specs.Names.{move_name, species_name}
use Rattle.gen1_machine.specs.Choices.{choice_at}
use Rattle.gen1_machine.specs.OfferedChoices.{offered}
use Rattle.gen1_machine.specs.State.{Field, known_in, member_at, member_in, party}
use Rattle.gen1_machine.specs.Step.{is_among}
use Rattle.gen1_machine.specs.declared.side.Choice.{Choice}
use Rattle.gen1_machine.specs.declared.side.Choice.TheVariants.{Move, Pass, Switch}
use Rattle.gen1_machine.specs.declared.side.Side.{Side}
use Rattle.gen1_text.specs.Ids.{id_of, move_called, species_called}
use Rattle.gen1_text.specs.MemberLines.{text_after}
use Rattle.gen1_text.proofs.TextLemmas.{move_by_letters, move_own, no_move, no_species, species_by_letters, species_own}
use Rattle.gen1_words.specs.ChoiceWords.{choice_of, move_said, place_said, slot_said, switch_said, words_said}
use Rattle.gen1_words.specs.declared.words.WordsFault.TheVariants.{Unknown}
use Rattle.gen1_words.specs.declared.words.ChoiceWords.{ChoiceWords}
use Rattle.gen1_words.specs.declared.words.ChoiceWords.TheVariants.{Exactly, PlaceCalled, SlotCalled}
use Rattle.gen1_c.specs.Battle.{byte_found, byte_read, move_words, named, switch_words, words_due}
use Rattle.gen1_c.specs.Names.{Tells}
use Rattle.gen1_c.proofs.OddsDue.{same_side}
use Rattle.gen1_c.proofs.choices.gen1_choice_from_words.Goals as goal

-- what is expected is read
read_as : {due : Result ℕ ℕ} (old : ℕ) (r : Result ℕ ℕ) → due ≡ r → Tells due old (elim r [ Ok byte ↦ byte | Err why ↦ old ]) (elim r [ Ok byte ↦ 0 | Err why ↦ why ])
read_as old (Ok byte) e = subst (λ (due : Result ℕ ℕ). Tells due old byte 0) (sym e) (refl, refl)
read_as old (Err why) e = subst (λ (due : Result ℕ ℕ). Tells due old old why) (sym e) (refl, refl)

-- a digit is a letter that stays
digit_first : (digit : ℕ) (rest : List ℕ) → digit ≤ 9 → id_of ((48 + digit) ∷ rest) ≡ (48 + digit) ∷ id_of rest
digit_first digit rest small =
    let counts : is_ascii_alphanumeric (48 + digit) ≡ true = grind (arith, nat_tests) in
    let stays : to_ascii_lowercase (48 + digit) ≡ 48 + digit = (lowercase_is (48 + digit)).1 (omega arith) in
    rw (counts, stays) refl

-- a slot with the name of its move, and a place with that of its species

slot_with : (slot id : ℕ) (letters : List ℕ) → move_called letters ≡ Some id → slot_said slot letters ≡ Some (SlotCalled slot id)
slot_with slot id [] e = absurd (let f = sym no_move ∙ e in cc)
slot_with slot id (b ∷ letters) e = ap (option_map (SlotCalled slot)) e

place_with : (place species : ℕ) (letters : List ℕ) → species_called letters ≡ Some species → place_said place letters ≡ Some (PlaceCalled place species)
place_with place species [] e = absurd (let f = sym no_species ∙ e in cc)
place_with place species (b ∷ letters) e = ap (option_map (PlaceCalled place)) e

move_with : (slot : ℕ) (letters : List ℕ) → slot ≤ 4 → move_said ((48 + slot) ∷ letters) ≡ slot_said slot letters
move_with slot letters small =
    let low : nat_le 48 (48 + slot) ≡ true = grind (arith, nat_tests) in
    let high : nat_le (48 + slot) 52 ≡ true = grind (arith, nat_tests) in
    let same : 48 + slot - 48 ≡ slot = omega arith in
    rw (low, high, same) refl

switch_with : (place : ℕ) (letters : List ℕ) → 1 ≤ place → place ≤ 6 → switch_said ((48 + place) ∷ letters) ≡ place_said place letters
switch_with place letters some small =
    let low : nat_le 49 (48 + place) ≡ true = grind (arith, nat_tests) in
    let high : nat_le (48 + place) 54 ≡ true = grind (arith, nat_tests) in
    let same : 48 + place - 48 ≡ place = omega arith in
    rw (low, high, same) refl

after_move : (letters : List ℕ) → words_said (codes "move" ++ letters) ≡ move_said letters
unfolding text_after
after_move letters = refl

after_switch : (letters : List ℕ) → words_said (codes "switch" ++ letters) ≡ switch_said letters
unfolding text_after
after_switch letters = refl

-- the words of a slot and of a place say these

move_letters : (slot id : ℕ) → slot ≤ 4 → 1 ≤ id → id ≤ 165
    → words_said (id_of ((codes "move " ++ ((48 + slot) ∷ codes " ")) ++ move_name id)) ≡ Some (SlotCalled slot id)
move_letters slot id small low high =
    let name = id_of (move_name id) in
    ap (λ (l : List ℕ). words_said (codes "move" ++ l)) (digit_first slot (codes " " ++ move_name id) (omega (arith, small)))
    ∙ after_move ((48 + slot) ∷ name) ∙ move_with slot name small
    ∙ slot_with slot id name (sym (move_by_letters (move_name id)) ∙ move_own id low high)

switch_letters : (place species : ℕ) → 1 ≤ place → place ≤ 6 → 1 ≤ species → species ≤ 151
    → words_said (id_of ((codes "switch " ++ ((48 + place) ∷ codes " ")) ++ species_name species)) ≡ Some (PlaceCalled place species)
switch_letters place species some small low high =
    let name = id_of (species_name species) in
    ap (λ (l : List ℕ). words_said (codes "switch" ++ l)) (digit_first place (codes " " ++ species_name species) (omega (arith, small)))
    ∙ after_switch ((48 + place) ∷ name) ∙ switch_with place name some small
    ∙ place_with place species name (sym (species_by_letters (species_name species)) ∙ species_own species low high)

equal_self : (n : ℕ) → (n == n) ≡ true
equal_self n = grind (arith, nat_tests)

in_bounds : (last number : ℕ) → (nat_le 1 number && nat_le number last) ≡ true → (1 ≤ number) × (number ≤ last)
in_bounds last number e = grind (arith, nat_tests)

abbrev made : List ℕ → Result (List ℕ) ℕ
made text = Ok text

named_word : (word : List ℕ) (digit last number : ℕ) (name text : List ℕ) → named word digit last number name ≡ Ok text
    → ((nat_le 1 number && nat_le number last) ≡ true) × (text ≡ (word ++ ((48 + digit) ∷ codes " ")) ++ name)
named_word word digit last number name text e = by (nat_le 1 number && nat_le number last) refl e
  where
    by : (t : Bool) → (nat_le 1 number && nat_le number last) ≡ t
        → (if t then made ((word ++ ((48 + digit) ∷ codes " ")) ++ name) else Err 44) ≡ Ok text
        → ((nat_le 1 number && nat_le number last) ≡ true) × (text ≡ (word ++ ((48 + digit) ∷ codes " ")) ++ name)
    by true is e = (is, (let f = e in cc))
    by false is e = absurd (let f = e in cc)

-- the choice of a byte

slot_at : (byte slot : ℕ) → choice_at byte ≡ Some (Move slot) → (slot ≤ 4) × (16 + slot ≡ byte)
slot_at byte slot e = by (byte == 0) (nat_le 16 byte && nat_le byte 20) (nat_le 33 byte && nat_le byte 38) refl e
  where
    by : (a b d : Bool) → (nat_le 16 byte && nat_le byte 20) ≡ b
        → (if a then Some Pass else if b then Some (Move (byte - 16)) else if d then Some (Switch (byte - 32)) else None) ≡ Some (Move slot)
        → (slot ≤ 4) × (16 + slot ≡ byte)
    by true b d r e = absurd (let f = e in cc)
    by false true d r e =
        let same : byte - 16 ≡ slot = (let f = e in cc) in
        let bounds : (16 ≤ byte) × (byte ≤ 20) = grind (arith, nat_tests) in
        (omega (arith, same, bounds.0, bounds.1), omega (arith, same, bounds.0, bounds.1))
    by false false true r e = absurd (let f = e in cc)
    by false false false r e = absurd (let f = e in cc)

place_at : (byte place : ℕ) → choice_at byte ≡ Some (Switch place) → (1 ≤ place) × (place ≤ 6) × (32 + place ≡ byte)
place_at byte place e = by (byte == 0) (nat_le 16 byte && nat_le byte 20) (nat_le 33 byte && nat_le byte 38) refl e
  where
    by : (a b d : Bool) → (nat_le 33 byte && nat_le byte 38) ≡ d
        → (if a then Some Pass else if b then Some (Move (byte - 16)) else if d then Some (Switch (byte - 32)) else None) ≡ Some (Switch place)
        → (1 ≤ place) × (place ≤ 6) × (32 + place ≡ byte)
    by true b d r e = absurd (let f = e in cc)
    by false true d r e = absurd (let f = e in cc)
    by false false true r e =
        let same : byte - 32 ≡ place = (let f = e in cc) in
        let bounds : (33 ≤ byte) × (byte ≤ 38) = grind (arith, nat_tests) in
        (omega (arith, same, bounds.0, bounds.1), omega (arith, same, bounds.0, bounds.1), omega (arith, same, bounds.0, bounds.1))
    by false false false r e = absurd (let f = e in cc)

pass_at : (byte : ℕ) → choice_at byte ≡ Some Pass → 0 ≡ byte
pass_at byte e = by (byte == 0) (nat_le 16 byte && nat_le byte 20) (nat_le 33 byte && nat_le byte 38) refl e
  where
    by : (a b d : Bool) → (byte == 0) ≡ a
        → (if a then Some Pass else if b then Some (Move (byte - 16)) else if d then Some (Switch (byte - 32)) else None) ≡ Some Pass → 0 ≡ byte
    by true b d r e = grind (arith, nat_tests)
    by false true d r e = absurd (let f = e in cc)
    by false false true r e = absurd (let f = e in cc)
    by false false false r e = absurd (let f = e in cc)

-- these words are read

read_of : (which : Side) (f : Field) (text : List ℕ) (words : ChoiceWords) → words_said (id_of text) ≡ Some words
    → byte_read which f text ≡ byte_found (choice_of which f words)
read_of which f text words e = ap (λ (o : Option ChoiceWords). byte_found (option_map_or (choice_of which f) o (Err Unknown))) e

pass_said : words_said (id_of (codes "pass")) ≡ Some (Exactly Pass)
pass_said = refl

zero_said : words_said (id_of (codes "move 0")) ≡ Some (Exactly (Move 0))
unfolding text_after
zero_said = refl

is_zero : (n : ℕ) → (n == 0) ≡ true → n ≡ 0
is_zero n e = grind (arith, nat_tests)

own_move : (which : Side) (f : Field) (byte slot : ℕ) (text : List ℕ) → choice_at byte ≡ Some (Move slot) → is_among (Move slot) (offered which f) ≡ true
    → move_words which slot f ≡ Ok text → byte_read which f text ≡ Ok byte
own_move which f byte slot text at offers words = by (slot == 0) (f.turn == 0) refl words
  where
    id : ℕ
    id = (known_in slot (member_in which f).moves).id

    is : (slot ≤ 4) × (16 + slot ≡ byte)
    is = slot_at byte slot at

    by : (z t : Bool) → (slot == 0) ≡ z
        → (if z then made (codes "move 0") else (if t then Err 44 else named (codes "move ") slot 165 id (move_name id))) ≡ Ok text
        → byte_read which f text ≡ Ok byte
    by true t zero e =
        let none : slot ≡ 0 = is_zero slot zero in
        let same : codes "move 0" ≡ text = (let g = e in cc) in
        subst (λ (l : List ℕ). byte_read which f l ≡ Ok byte) same
        (read_of which f (codes "move 0") (Exactly (Move 0)) zero_said ∙ ap Ok (omega (arith, is.1, none)))
    by false true zero e = absurd (let g = e in cc)
    by false false zero e =
        let said = named_word (codes "move ") slot 165 id (move_name id) text e in
        let range = in_bounds 165 id said.0 in
        subst (λ (l : List ℕ). byte_read which f l ≡ Ok byte) (sym said.1)
        (read_of which f ((codes "move " ++ ((48 + slot) ∷ codes " ")) ++ move_name id) (SlotCalled slot id)
        (move_letters slot id is.0 range.0 range.1) ∙ rw (offers, zero, equal_self id) (ap Ok is.1))

own_switch : (which : Side) (f : Field) (byte place : ℕ) (text : List ℕ) → choice_at byte ≡ Some (Switch place)
    → is_among (Switch place) (offered which f) ≡ true → switch_words which place f ≡ Ok text → byte_read which f text ≡ Ok byte
own_switch which f byte place text at offers words =
    let species = (member_at place (party which f)).species in
    let is = place_at byte place at in
    let said = named_word (codes "switch ") place 151 species (species_name species) text words in
    let range = in_bounds 151 species said.0 in
    subst (λ (l : List ℕ). byte_read which f l ≡ Ok byte) (sym said.1)
    (read_of which f ((codes "switch " ++ ((48 + place) ∷ codes " ")) ++ species_name species) (PlaceCalled place species)
    (switch_letters place species is.0 is.1 range.0 range.1)
    ∙ rw (offers, equal_self species) (ap Ok is.2))

own_read : (which : Side) (f : Field) (byte : ℕ) (it : Choice) (text : List ℕ) → choice_at byte ≡ Some it → is_among it (offered which f) ≡ true
    → words_due which (Some it) f ≡ Ok text → byte_read which f text ≡ Ok byte
own_read which f byte Pass text at offers words =
    let same : codes "pass" ≡ text = (let g = words in cc) in
    subst (λ (l : List ℕ). byte_read which f l ≡ Ok byte) same (read_of which f (codes "pass") (Exactly Pass) pass_said ∙ ap Ok (pass_at byte at))
own_read which f byte (Move slot) text at offers words = own_move which f byte slot text at offers words
own_read which f byte (Switch place) text at offers words = own_switch which f byte place text at offers words

pub returns-in-Ok-clause-reads : goal.returns-in-Ok-clause-reads
returns-in-Ok-clause-reads c s which h e =
    let side = same_side c.in-Some.side which (c.in-Some.ensures.exact ∙ e) in
    let due = ap (λ (it : Side). byte_read it s.field c.args.text.now) (sym side) ∙ sym (c.byte_of_words.ensures.due s h) ∙ c.in-Ok.is in
    read_as _ _ due

pub returns-in-Err-clause-reads : goal.returns-in-Err-clause-reads
returns-in-Err-clause-reads c s which h e =
    let side = same_side c.in-Some.side which (c.in-Some.ensures.exact ∙ e) in
    let due = ap (λ (it : Side). byte_read it s.field c.args.text.now) (sym side) ∙ sym (c.byte_of_words.ensures.due s h) ∙ c.in-Err.is in
    read_as _ _ due

pub returns-in-Ok-clause-own : goal.returns-in-Ok-clause-own
returns-in-Ok-clause-own c s which byte it h e at offered words =
    subst (λ (due : Result ℕ ℕ). Tells due c.args.choice.now c.in-Ok.byte 0) (own_read which s.field byte it c.args.text.now at offered words)
    (returns-in-Ok-clause-reads c s which h e)

pub returns-in-Err-clause-own : goal.returns-in-Err-clause-own
returns-in-Err-clause-own c s which byte it h e at offered words =
    subst (λ (due : Result ℕ ℕ). Tells due c.args.choice.now c.args.choice.now c.in-Err.code) (own_read which s.field byte it c.args.text.now at offered words)
    (returns-in-Err-clause-reads c s which h e)
