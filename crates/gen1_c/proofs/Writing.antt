-- Texts that are expected, and so are written, teams among them.
use Rattle.std.proofs.Common.{Bool, List, [], ap, append-nil, append_assoc, arith, drop, false, get_or, inl, inr, length, length-append, map, refl, set, subst, sym, true, ℕ, ◌%◌, ◌++◌, ◌+◌, ◌-◌, ◌/◌, ◌<◌, ◌==◌, ◌≡◌, ◌≤◌, ◌⊎◌, ◌∙◌, ◌∷◌, Err, None, Ok, Option, Result, Some, codes, if◌then◌else◌, nat_le, nat_lt, ok_or, option_map, take, ◌&&◌, All}
use Rattle.std.proofs.lemmas.List.{drop-drop, drop-set-lt, drop_more, get_or-map, length-map, map-append, drop_at, take_at, take-map}
use Rattle.std.proofs.Math.Seq.{set-append_seam}
use Rattle.gen1_machine.specs.declared.side.Choice.{Choice}
use Rattle.gen1_machine.specs.Choices.{byte_of_choice}
use Rattle.gen1_offers.specs.OfferedChoices.{all_choices, chosen_by}
use Rattle.gen1_offers.proofs.MaskChoices.{chosen-even, chosen-odd}
use Rattle.gen1_offers.proofs.MaskDigits.{equal_number}
use Rattle.gen1_offers.proofs.OfferedSet.{other_number}
use Rattle.gen1_c.specs.Battle.{IsWritten, Offers, move_words, switch_words}
use Rattle.std.proofs.lemmas.Bool.Decides.{nat_tests}
use Rattle.std.specs.List.{slice_get}
use Rattle.gen1_tables.specs.Names.{move_name, species_name}
use Rattle.gen1_machine.specs.declared.side.Side.{Side}
use Rattle.gen1_machine.specs.State.{Field, known_in, member_at, member_in, party}
use Rattle.gen1_c.proofs.OddsDue.{not_zero}
use Rattle.gen1_c.specs.Codes.{Room, Writes, WritesIf, ended, over_front}
use Rattle.gen1_c.specs.Names.{Tells, numbered}
use Rattle.gen1_stats.specs.Teams.{Sheet, team_refusal}
use Rattle.gen1_stats.specs.declared.team.TeamRefusal.{TeamRefusal}
use Rattle.gen1_writer.specs.Export.{write_refusal}
use Rattle.gen1_writer.specs.declared.written.WriteFault.{WriteFault}
use Rattle.gen1_c.specs.Teams.{of_write, written_due, fault_of, number_fault, sheet_of, sheets_of, team_fault, GivesTeam, random_due, sample_due, source, unless_refused, form_of, member_of, first_fault, given, member_fault}
use Rattle.gen1_c.specs.declared.teams.MemberForm.{MemberForm}
use Rattle.gen1_c.specs.declared.teams.TeamForm.{TeamForm}
use Rattle.std.proofs.lemmas.Bool.{cases_lt, le-leb, le-ltb, lt-ltb, ne_eqb}
use Rattle.std.proofs.lemmas.List.Elements.{All-tail}
use mathlib.Core.Logic.{⊎_elim}
use Rattle.gen1_random.specs.Teams.{IsRandomMember, draft, sample_team, size_refusal}
use Rattle.gen1_stats.specs.Members.{IsBetween}
use Rattle.gen1_stats.specs.Refusals.{number_of}
use Rattle.gen1_stats.specs.declared.team.TeamRefusal.TheVariants.{TooMany}
use Rattle.gen1_machine.specs.declared.side.Choice.TheVariants as choices

-- Choices that are written one after the other to the beginning of a caller's nine bytes.

-- one more byte
pub front_more : (done base now : List ℕ) (count byte : ℕ) → IsWritten done base now count → length done < length base
    → IsWritten (done ++ (byte ∷ [])) base (set now count byte) (count + 1)
front_more done base now count byte is inside =
    let long : length (done ++ (byte ∷ [])) ≡ length done + 1 = length-append done (byte ∷ []) in
    let split = drop_more base (length done) 0 inside in (
      omega (arith, long, is.0),
      ap (λ (l : List ℕ). set l count byte) is.1 ∙ ap (λ (n : ℕ). set (done ++ drop (length done) base) n byte) is.0
          ∙ ap (λ (l : List ℕ). set (done ++ l) (length done) byte) split
          ∙ set-append_seam done (get_or base (length done) 0) (drop (length done + 1) base) byte
          ∙ sym (append_assoc done (byte ∷ []) (drop (length done + 1) base))
          ∙ ap (λ (n : ℕ). (done ++ (byte ∷ [])) ++ drop n base) (sym long),
    )

-- no more bytes
pub front_same : (done base now : List ℕ) (count : ℕ) → IsWritten done base now count → IsWritten (done ++ []) base now count
front_same done base now count is = subst (λ (l : List ℕ). IsWritten l base now count) (sym (append-nil done)) is

-- past a count that grows everything is as it was
pub rest_more : (old now new : List ℕ) (count next : ℕ) → count ≤ next → drop count now ≡ drop count old → drop next new ≡ drop next now
    → drop next new ≡ drop next old
rest_more old now new count next grows before step =
    let more : next ≡ count + (next - count) = omega (arith, grows) in
    step ∙ ap (λ (n : ℕ). drop n now) more ∙ sym (drop-drop (next - count) count now) ∙ ap (drop (next - count)) before
    ∙ drop-drop (next - count) count old ∙ ap (λ (n : ℕ). drop n old) (sym more)

pub rest_four : (base : List ℕ) (next : ℕ) → 4 ≤ next → drop next (set (set (set (set base 0 0x11) 1 0x12) 2 0x13) 3 0x14) ≡ drop next base
rest_four base next past =
    drop-set-lt next (set (set (set base 0 0x11) 1 0x12) 2 0x13) 3 0x14 (omega (arith, past))
    ∙ drop-set-lt next (set (set base 0 0x11) 1 0x12) 2 0x13 (omega (arith, past))
    ∙ drop-set-lt next (set base 0 0x11) 1 0x12 (omega (arith, past)) ∙ drop-set-lt next base 0 0x11 (omega (arith, past))

abbrev pub twelve_bytes : List ℕ
twelve_bytes = 0x00 ∷ 0x10 ∷ 0x11 ∷ 0x12 ∷ 0x13 ∷ 0x14 ∷ 0x21 ∷ 0x22 ∷ 0x23 ∷ 0x24 ∷ 0x25 ∷ 0x26 ∷ []

byte_at : (digit : ℕ) → digit < 12 → get_or twelve_bytes digit 0 ≡ byte_of_choice (get_or all_choices digit choices.Pass)
byte_at digit inside = get_or-map byte_of_choice all_choices digit choices.Pass 0 inside

-- what is written while the digits from one on are still to come: more choices, after those that are done
pub record SoFar (base : List ℕ) (done : List Choice) (mask from rest digit : ℕ) (now : List ℕ) (count : ℕ) : Type 0 where
  pub more : List Choice
  pub splits : chosen_by mask (drop from all_choices) ≡ more ++ chosen_by rest (drop digit all_choices)
  pub written : IsWritten (map byte_of_choice (done ++ more)) base now count

pub so_far-none : (base : List ℕ) (done : List Choice) (mask from : ℕ) (now : List ℕ) (count : ℕ) → IsWritten (map byte_of_choice done) base now count
    → SoFar base done mask from mask from now count
so_far-none base done mask from now count is = record {
  more = [];
  splits = refl;
  written = subst (λ (l : List Choice). IsWritten (map byte_of_choice l) base now count) (sym (append-nil done)) is;
}

abbrev one_byte : Bool → ℕ → List ℕ
one_byte holds byte = if holds then byte ∷ [] else []

parity : (m : ℕ) → (m % 2 ≡ 1) ⊎ (m % 2 ≡ 0)
parity m = grind arith

-- one more digit
pub so_far-more : (base : List ℕ) (done : List Choice) (mask from rest digit : ℕ) (now new : List ℕ) (count next : ℕ)
    → SoFar base done mask from rest digit now count → digit < 12 → length base ≡ 9 → length (done ++ chosen_by mask (drop from all_choices)) ≤ 9
    → ((base' done' : List ℕ) → IsWritten done' base' now count → length base' ≡ 9 → length (done' ++ one_byte (rest % 2 == 1) (get_or twelve_bytes digit 0)) ≤ 9
    → IsWritten (done' ++ one_byte (rest % 2 == 1) (get_or twelve_bytes digit 0)) base' new next)
    → SoFar base done mask from (rest / 2) (digit + 1) new next
so_far-more base done mask from rest digit now new count next so inside nine few put = by (parity rest)
  where
    head : drop digit all_choices ≡ get_or all_choices digit choices.Pass ∷ drop (digit + 1) all_choices
    head = drop_more all_choices digit choices.Pass inside

    by : (rest % 2 ≡ 1) ⊎ (rest % 2 ≡ 0) → SoFar base done mask from (rest / 2) (digit + 1) new next
    by (inl odd) =
        let choice : Choice = get_or all_choices digit choices.Pass in
        let left = ap (chosen_by rest) head ∙ chosen-odd rest choice (drop (digit + 1) all_choices) odd in
        let splits = so.splits ∙ ap (λ (l : List Choice). so.more ++ l) left ∙ sym (append_assoc so.more (choice ∷ []) (chosen_by (rest / 2) (drop (digit + 1) all_choices))) in
        let bytes = map byte_of_choice (done ++ so.more) in
        let long : length (done ++ chosen_by mask (drop from all_choices)) ≡ length done + (length so.more + 1 + length (chosen_by (rest / 2) (drop (digit + 1) all_choices))) =
        length-append done (chosen_by mask (drop from all_choices)) ∙ (let e = ap length splits in
        omega (arith, e, length-append (so.more ++ (choice ∷ [])) (chosen_by (rest / 2) (drop (digit + 1) all_choices)), length-append so.more (choice ∷ []))) in
        let small : length (bytes ++ (get_or twelve_bytes digit 0 ∷ [])) ≤ 9 =
        omega (arith, few, long, length-append bytes (get_or twelve_bytes digit 0 ∷ []), length-map (done ++ so.more) byte_of_choice, length-append done so.more) in
        let same : (rest % 2 == 1) ≡ true = equal_number (rest % 2) 1 odd in
        let after : IsWritten (bytes ++ (get_or twelve_bytes digit 0 ∷ [])) base new next =
        (rw same at (put base bytes so.written nine)) small in
        let joined : bytes ++ (get_or twelve_bytes digit 0 ∷ []) ≡ map byte_of_choice (done ++ (so.more ++ (choice ∷ []))) =
        ap (λ (n : ℕ). bytes ++ (n ∷ [])) (byte_at digit inside) ∙ sym (map-append byte_of_choice (done ++ so.more) (choice ∷ []))
        ∙ ap (map byte_of_choice) (append_assoc done so.more (choice ∷ [])) in
        record { more = so.more ++ (choice ∷ []); splits = splits; written = subst (λ (l : List ℕ). IsWritten l base new next) joined after }
    by (inr even) =
        let choice : Choice = get_or all_choices digit choices.Pass in
        let left = ap (chosen_by rest) head ∙ chosen-even rest choice (drop (digit + 1) all_choices) even in
        let splits = so.splits ∙ ap (λ (l : List Choice). so.more ++ l) left in
        let bytes = map byte_of_choice (done ++ so.more) in
        let long : length (done ++ chosen_by mask (drop from all_choices)) ≡ length done + (length so.more + length (chosen_by (rest / 2) (drop (digit + 1) all_choices))) =
        length-append done (chosen_by mask (drop from all_choices)) ∙ (let e = ap length splits in
        omega (arith, e, length-append so.more (chosen_by (rest / 2) (drop (digit + 1) all_choices)))) in
        let small : length (bytes ++ []) ≤ 9 = omega (arith, few, long, length-append {A = ℕ} bytes [], length-map (done ++ so.more) byte_of_choice, length-append done so.more) in
        let other : (rest % 2 == 1) ≡ false = other_number (rest % 2) 1 (λ e. omega (arith, e, even)) in
        let after : IsWritten (bytes ++ []) base new next = (rw other at (put base bytes so.written nine)) small in
        record { more = so.more; splits = splits; written = subst (λ (l : List ℕ). IsWritten l base new next) (append-nil bytes) after }

-- all digits
pub so_far-all : (base : List ℕ) (done : List Choice) (mask from rest digit : ℕ) (now : List ℕ) (count : ℕ) → SoFar base done mask from rest digit now count → digit ≡ 12
    → IsWritten (map byte_of_choice (done ++ chosen_by mask (drop from all_choices))) base now count
so_far-all base done mask from rest digit now count so at =
    let none : chosen_by rest (drop digit all_choices) ≡ [] = ap (λ (n : ℕ). chosen_by rest (drop n all_choices)) at in
    let all : chosen_by mask (drop from all_choices) ≡ so.more = so.splits ∙ ap (λ (l : List Choice). so.more ++ l) none ∙ append-nil so.more in
    subst (λ (l : List Choice). IsWritten (map byte_of_choice (done ++ l)) base now count) (sym all) so.written

-- a mask of four moves, and no struggle

abbrev pub four : List Choice
four = choices.Move 1 ∷ choices.Move 2 ∷ choices.Move 3 ∷ choices.Move 4 ∷ []

pub four_first : (mask : ℕ) → mask % 64 ≡ 0x3c → chosen_by mask all_choices ≡ four ++ chosen_by (mask / 64) (drop 6 all_choices)
four_first mask is =
    let m1 = mask / 2 in let m2 = m1 / 2 in let m3 = m2 / 2 in let m4 = m3 / 2 in let m5 = m4 / 2 in
    let whole : m5 / 2 ≡ mask / 64 = omega arith in
    chosen-even mask choices.Pass (drop 1 all_choices) (omega (arith, is))
    ∙ chosen-even m1 (choices.Move 0) (drop 2 all_choices) (omega (arith, is))
    ∙ chosen-odd m2 (choices.Move 1) (drop 3 all_choices) (omega (arith, is))
    ∙ ap (λ (l : List Choice). choices.Move 1 ∷ l) (chosen-odd m3 (choices.Move 2) (drop 4 all_choices) (omega (arith, is))
    ∙ ap (λ (l : List Choice). choices.Move 2 ∷ l) (chosen-odd m4 (choices.Move 3) (drop 5 all_choices) (omega (arith, is))
    ∙ ap (λ (l : List Choice). choices.Move 3 ∷ l) (chosen-odd m5 (choices.Move 4) (drop 6 all_choices) (omega (arith, is))
    ∙ ap (λ (n : ℕ). choices.Move 4 ∷ chosen_by n (drop 6 all_choices)) whole)))

-- four bytes at the beginning of nine
pub four_written : (base : List ℕ) → length base ≡ 9
    → IsWritten (map byte_of_choice four) base (set (set (set (set base 0 0x11) 1 0x12) 2 0x13) 3 0x14) 4
four_written [] nine = absurd (omega arith)
four_written (a ∷ []) nine = absurd (omega arith)
four_written (a ∷ b ∷ []) nine = absurd (omega arith)
four_written (a ∷ b ∷ c ∷ []) nine = absurd (omega arith)
four_written (a ∷ b ∷ c ∷ d ∷ base) nine = (refl, refl)

pub offers_of : (list : List Choice) (old new : List ℕ) (count : ℕ) → IsWritten (map byte_of_choice list) old new count → Offers list old new count
offers_of list old new count is = (is.0 ∙ length-map list byte_of_choice, is.1)

-- the expected text is written, or the code says why not
pub written : {due : Result (List ℕ) ℕ} {text : List ℕ} (old new : Room) (code : ℕ) → due ≡ Ok text
    → Writes (Ok text) old new code → Writes due old new code
written old new code e h = subst (λ (due : Result (List ℕ) ℕ). Writes due old new code) (sym e) h

pub refused : {due : Result (List ℕ) ℕ} {why : ℕ} (old : Room) → due ≡ Err why → Writes due old old why
refused {why = why} old e = subst (λ (due : Result (List ℕ) ℕ). Writes due old old why) (sym e) (refl, refl)

-- a text that fits is written
pub written_fits : (text : List ℕ) (old new : Room) (code : ℕ) → Writes (Ok text) old new code → length text < length old.bytes → code ≡ 0
written_fits text old new code h fits = by (nat_lt (length text) (length old.bytes)) refl h
  where
    by : (b : Bool) → nat_lt (length text) (length old.bytes) ≡ b → WritesIf b text old new code → code ≡ 0
    by true e h = h.0
    by false e h = absurd (grind (arith, nat_tests, fits, e))

-- what was written is the text
pub written_back : (text : List ℕ) (old new : Room) (code : ℕ) → Writes (Ok text) old new code → code ≡ 0 → take new.count new.bytes ≡ text
written_back text old new code h zero = by (nat_lt (length text) (length old.bytes)) h
  where
    by : (b : Bool) → WritesIf b text old new code → take new.count new.bytes ≡ text
    by true h =
        rw h.1 (
        ap (take (length text)) (append_assoc text (0 ∷ []) (drop (length (ended text)) old.bytes))
        ∙ take_at text ((0 ∷ []) ++ drop (length (ended text)) old.bytes) (length text) refl
        )
    by false h = absurd (omega (arith, h.0, zero))

-- a text at the beginning, and a zero after it
pub ended_writes : (text old now : List ℕ) (count n : ℕ) → count ≡ length text → count < length old → now ≡ over_front text old
    → Writes (Ok text) (record { bytes = old; count = n }) (record { bytes = set now count 0; count = count }) 0
ended_writes text old now count n long inside is =
    let few : length text < length old = omega (arith, long, inside) in
    let test : nat_lt (length text) (length old) ≡ true = grind (arith, nat_tests) in
    let bytes : set now count 0 ≡ over_front (ended text) old =
    ap (λ (k : ℕ). set now k 0) long ∙ (front_more text old now (length text) 0 (refl, is) few).1 in
    rw test (refl, rw (bytes, long) refl)

-- past what was written to the beginning everything is as it was
pub rest_of : (front old now : List ℕ) (count : ℕ) → count ≡ length front → now ≡ over_front front old → drop count now ≡ drop count old
rest_of front old now count long is =
    ap (λ (l : List ℕ). drop count l) is ∙ drop_at front (drop (length front) old) count (sym long) ∙ ap (λ (n : ℕ). drop n old) (sym long)

-- a test that nothing passed
pub none_through : {A : Type 0} (test : Bool) (x : A) → (if test then Some x else None) ≡ None → test ≡ false
none_through true x e = absurd (let f = e in cc)
none_through false x e = refl

-- a number in its range, and one out of it

pub in_range : {A : Type 0} (last number : ℕ) (it : A) → (nat_le 1 number && nat_le number last) ≡ true → numbered last number it ≡ Ok it
in_range last number it e = rw e refl

pub out_of_range : {A : Type 0} (last number : ℕ) (it : A) → (nat_le 1 number && nat_le number last) ≡ false → numbered last number it ≡ Err 42
out_of_range last number it e = rw e refl

-- an expected row is written

pub row_told : {A : Type 0} {due : Result A ℕ} (old : A) {new : A} → due ≡ Ok new → Tells due old new 0
row_told {A = A} old {new = new} e = subst (λ (due : Result A ℕ). Tells due old new 0) (sym e) (refl, refl)

pub row_kept : {A : Type 0} {due : Result A ℕ} (old : A) → due ≡ Err 42 → Tells due old old 42
row_kept {A = A} old e = subst (λ (due : Result A ℕ). Tells due old old 42) (sym e) (refl, refl)

-- a text of a list, by its index

pub got_some : {A : Type 0} (view : A → List ℕ) {o : Option A} (list : List (List ℕ)) (k : ℕ) {x : A} → option_map view o ≡ slice_get list k → o ≡ Some x
    → ok_or {E = ℕ} (slice_get list k) 42 ≡ Ok (view x)
got_some view list k e is = ap (λ (o : Option (List ℕ)). ok_or {E = ℕ} o 42) (sym e ∙ ap (option_map view) is)

pub got_none : {A : Type 0} (view : A → List ℕ) {o : Option A} (list : List (List ℕ)) (k : ℕ) → option_map view o ≡ slice_get list k → o ≡ None
    → ok_or {E = ℕ} (slice_get list k) 42 ≡ Err 42
got_none view list k e is = ap (λ (o : Option (List ℕ)). ok_or {E = ℕ} o 42) (sym e ∙ ap (option_map view) is)

-- the words of a move and of a switch

pub move_early : (side : Side) (slot : ℕ) (f : Field) → (slot ≡ 0 → ⊥) → f.turn ≡ 0 → move_words side slot f ≡ Err 44
move_early side slot f some turn = rw (not_zero slot some, turn) refl

pub move_named : (side : Side) (slot : ℕ) (f : Field) (id : ℕ) → (slot ≡ 0 → ⊥) → (f.turn ≡ 0 → ⊥) → id ≡ (known_in slot (member_in side f).moves).id
    → (nat_le 1 id && nat_le id 165) ≡ true → move_words side slot f ≡ Ok ((codes "move " ++ ((48 + slot) ∷ codes " ")) ++ move_name id)
move_named side slot f id some out is range = rw (not_zero slot some, not_zero f.turn out, sym is, range) refl

pub move_unnamed : (side : Side) (slot : ℕ) (f : Field) (id : ℕ) → (slot ≡ 0 → ⊥) → (f.turn ≡ 0 → ⊥) → id ≡ (known_in slot (member_in side f).moves).id
    → (nat_le 1 id && nat_le id 165) ≡ false → move_words side slot f ≡ Err 44
move_unnamed side slot f id some out is range = rw (not_zero slot some, not_zero f.turn out, sym is, range) refl

pub switch_named : (side : Side) (place : ℕ) (f : Field) (id : ℕ) → id ≡ (member_at place (party side f)).species
    → (nat_le 1 id && nat_le id 151) ≡ true → switch_words side place f ≡ Ok ((codes "switch " ++ ((48 + place) ∷ codes " ")) ++ species_name id)
switch_named side place f id is range = rw (sym is, range) refl

pub switch_unnamed : (side : Side) (place : ℕ) (f : Field) (id : ℕ) → id ≡ (member_at place (party side f)).species
    → (nat_le 1 id && nat_le id 151) ≡ false → switch_words side place f ≡ Err 44
switch_unnamed side place f id is range = rw (sym is, range) refl

-- A struct that is made of members describes these members.

-- What a team of the C library consists of, and where it is wrong.

-- a list of six, mapped from six
pub six : {A B : Type 0} (f : A → B) (xs : List A) (d : A) → length xs ≡ 6
    → map f xs ≡ f (get_or xs 0 d) ∷ f (get_or xs 1 d) ∷ f (get_or xs 2 d) ∷ f (get_or xs 3 d) ∷ f (get_or xs 4 d) ∷ f (get_or xs 5 d) ∷ []
six f (a ∷ b ∷ c ∷ x ∷ y ∷ z ∷ []) d long = refl
six f (a ∷ b ∷ c ∷ x ∷ y ∷ z ∷ more ∷ xs) d long = absurd (omega arith)
six f [] d long = absurd (omega arith)
six f (a ∷ []) d long = absurd (omega arith)
six f (a ∷ b ∷ []) d long = absurd (omega arith)
six f (a ∷ b ∷ c ∷ []) d long = absurd (omega arith)
six f (a ∷ b ∷ c ∷ x ∷ []) d long = absurd (omega arith)
six f (a ∷ b ∷ c ∷ x ∷ y ∷ []) d long = absurd (omega arith)

-- the members of a team, made of six structs
pub six_sheets : (t : TeamForm) (d : MemberForm) (a b c x y z : Sheet) → length t.members ≡ 6
    → a ≡ sheet_of (get_or t.members 0 d) → b ≡ sheet_of (get_or t.members 1 d) → c ≡ sheet_of (get_or t.members 2 d)
    → x ≡ sheet_of (get_or t.members 3 d) → y ≡ sheet_of (get_or t.members 4 d) → z ≡ sheet_of (get_or t.members 5 d)
    → a ∷ b ∷ c ∷ x ∷ y ∷ z ∷ [] ≡ map sheet_of t.members
six_sheets t d a b c x y z long ea eb ec ex ey ez = rw (ea, eb, ec, ex, ey, ez) (sym (six sheet_of t.members d long))

-- those that count
pub sheets-of : (t : TeamForm) (all : List Sheet) (n : ℕ) → all ≡ map sheet_of t.members → n ≡ t.count → take n all ≡ sheets_of t
sheets-of t all n is count = rw (is, count) (take-map sheet_of t.count t.members)

-- the error of a team whose numbers are all in their ranges

pub fault-none : (t : TeamForm) → number_fault t ≡ 0 → team_refusal (sheets_of t) ≡ None → team_fault t ≡ 0
unfolding team_fault
fault-none t none fine = rw (none, fine) refl

pub fault-rules : (t : TeamForm) (refusal : TeamRefusal) → number_fault t ≡ 0 → team_refusal (sheets_of t) ≡ Some refusal → team_fault t ≡ fault_of refusal
unfolding team_fault
fault-rules t refusal none why = rw (none, why) refl

-- the text of a team, and the code of one that has none

pub due_refusal : (write : List Sheet → List ℕ) (t : TeamForm) (fault : WriteFault) → number_fault t ≡ 0 → write_refusal (sheets_of t) ≡ Some fault
    → written_due write t ≡ Err (of_write fault)
due_refusal write t fault none why = rw (none, why) refl

pub due_text : (write : List Sheet → List ℕ) (t : TeamForm) → number_fault t ≡ 0 → write_refusal (sheets_of t) ≡ None
    → written_due write t ≡ Ok (write (sheets_of t))
due_text write t none fine = rw (none, fine) refl

pub not_refused : (o : Option WriteFault) (fault : WriteFault) → o ≡ Some fault → o ≡ None → ⊥
not_refused o fault some none = cc

-- the numbers of a move and of a species
move-range : (id : ℕ) → (1 ≤ id) × (id ≤ 164) → (nat_le 1 id && nat_le id 165) ≡ true
move-range id range = rw (le-leb 1 id range.0, le-leb id 165 (omega (arith, range.1))) refl

species-range : (id : ℕ) → (1 ≤ id) × (id ≤ 151) → (nat_le 1 id && nat_le id 151) ≡ true
species-range id range = rw (le-leb 1 id range.0, le-leb id 151 range.1) refl

-- what the struct of a member says of these moves
record IsBack (s : Sheet) : Type 0 where
  same : sheet_of (member_of s) ≡ s
  lawful : member_fault (member_of s) ≡ 0

with-moves : (s : Sheet) (moves : List (ℕ × ℕ)) → IsBetween 1 151 s.species → length moves ≡ 4 → All (λ chosen. IsBetween 1 164 chosen.0) moves
    → IsBack (record s { moves = moves })
with-moves s (a ∷ b ∷ c ∷ d ∷ []) species four known =
    let one = known 0 a (omega arith) in let two = known 1 a (omega arith) in
    let three = known 2 a (omega arith) in let last = known 3 a (omega arith) in record {
      same = rw (species-range s.species species, move-range a.0 one, move-range b.0 two, move-range c.0 three, move-range d.0 last) refl;
      lawful = rw (
        species-range s.species species,
        le-ltb 165 a.0 (omega (arith, one.1)),
        le-ltb 165 b.0 (omega (arith, two.1)),
        le-ltb 165 c.0 (omega (arith, three.1)),
        le-ltb 165 d.0 (omega (arith, last.1)),
      ) refl;
    }
with-moves s [] species four known = absurd (omega (arith, four))
with-moves s (a ∷ []) species four known = absurd (omega (arith, four))
with-moves s (a ∷ b ∷ []) species four known = absurd (omega (arith, four))
with-moves s (a ∷ b ∷ c ∷ []) species four known = absurd (omega (arith, four))
with-moves s (a ∷ b ∷ c ∷ d ∷ e ∷ more) species four known = absurd (omega (arith, four))

back : (s : Sheet) → IsRandomMember s → IsBack s
back s h = with-moves s s.moves h.species h.four h.known

-- all members of a struct
given-form : (sheets : List Sheet) → length sheets ≤ 6 → given (form_of sheets) ≡ map member_of sheets
given-form [] few = refl
given-form (a ∷ []) few = refl
given-form (a ∷ b ∷ []) few = refl
given-form (a ∷ b ∷ c ∷ []) few = refl
given-form (a ∷ b ∷ c ∷ d ∷ []) few = refl
given-form (a ∷ b ∷ c ∷ d ∷ e ∷ []) few = refl
given-form (a ∷ b ∷ c ∷ d ∷ e ∷ f ∷ []) few = refl
given-form (a ∷ b ∷ c ∷ d ∷ e ∷ f ∷ g ∷ more) few = absurd (omega (arith, few))

all-back : (sheets : List Sheet) → All IsRandomMember sheets → map sheet_of (map member_of sheets) ≡ sheets
all-back [] all = refl
all-back (s ∷ sheets) all =
    rw ((back s (all 0 s (omega arith))).same, all-back sheets (All-tail IsRandomMember s sheets all)) refl

no-fault : (place : ℕ) (sheets : List Sheet) → All IsRandomMember sheets → first_fault place (map member_of sheets) ≡ 0
no-fault place [] all = refl
no-fault place (s ∷ sheets) all =
    rw (back s (all 0 s (omega arith))).lawful (no-fault (place + 1) sheets (All-tail IsRandomMember s sheets all))

-- the struct of lawful members is accepted
pub form-lawful : (sheets : List Sheet) → length sheets ≤ 6 → All IsRandomMember sheets → team_refusal sheets ≡ None → team_fault (form_of sheets) ≡ 0
form-lawful sheets few all lawful =
    fault-none (form_of sheets)
    (rw (le-ltb 6 (length sheets) few, given-form sheets few) (no-fault 1 sheets all))
    (rw (given-form sheets few, all-back sheets all) lawful)

-- a lawful team has six members at most
too-many : (sheets : List Sheet) → (length sheets == 0) ≡ false → nat_lt 6 (length sheets) ≡ true → team_refusal sheets ≡ None → ⊥
too-many sheets some many lawful = let e : team_refusal sheets ≡ Some TooMany = rw (some, many) refl in cc

pub few : (sheets : List Sheet) → team_refusal sheets ≡ None → length sheets ≤ 6
few sheets lawful =
    ⊎_elim
    (λ many. absurd (too-many sheets (ne_eqb (length sheets) 0 (λ none. absurd (omega (arith, many, none)))) (lt-ltb 6 (length sheets) many) lawful))
    (λ low. low) (cases_lt 6 (length sheets))

-- what is due is given

pub gives-ok : {due : Result (List Sheet) ℕ} {sheets : List Sheet} (old new : TeamForm) → due ≡ Ok sheets → new ≡ form_of sheets → GivesTeam due old new 0
gives-ok old new e is = subst (λ (due : Result (List Sheet) ℕ). GivesTeam due old new 0) (sym e) (refl, is)

pub gives-err : {due : Result (List Sheet) ℕ} {why : ℕ} (old : TeamForm) → due ≡ Err why → GivesTeam due old old why
gives-err {why = why} old e = subst (λ (due : Result (List Sheet) ℕ). GivesTeam due old old why) (sym e) (refl, refl)

pub random-ok : (seed count from_all : ℕ) → size_refusal count ≡ None → random_due seed count from_all ≡ Ok (draft (source from_all) seed count).team
random-ok seed count from_all e = ap (unless_refused (draft (source from_all) seed count).team) e

pub random-err : (seed count from_all : ℕ) (refusal : TeamRefusal) → size_refusal count ≡ Some refusal → random_due seed count from_all ≡ Err (number_of refusal)
random-err seed count from_all refusal e = ap (unless_refused (draft (source from_all) seed count).team) e

pub sample-ok : (number : ℕ) → (nat_le 1 number && nat_le number 12) ≡ true → sample_due number ≡ Ok (sample_team number)
sample-ok number e = rw e refl

pub sample-err : (number : ℕ) → (nat_le 1 number && nat_le number 12) ≡ false → sample_due number ≡ Err 42
sample-err number e = rw e refl
