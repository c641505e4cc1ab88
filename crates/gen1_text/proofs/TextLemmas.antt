-- What a text says, a piece at a time: names in a text, numbers, EVs and IVs, and lines.
use Rattle.std.proofs.Common.{Err, List, None, Ok, Option, Result, Some, [], ap, append_assoc, arith, false, refl, true, ℕ, ◌++◌, ◌+◌, ◌<◌, ◌∙◌, ◌∷◌, ◌≡◌, ◌≤◌, Bool, cond, drop, length, not, take, ◌-◌, ◌*◌, add-one, drop_of_length-le, get_or, suc, codes, filter, map, subst, sym}
use Rattle.std.specs.Prelude.{OnSome, nat_le, ◌==◌, option_and_then, slice_set, if◌then◌else◌, ◌&&◌, bytes_eq, nat_lt, option_map, position}
use Rattle.std.proofs.lemmas.Bool.Decides.{nat_tests}
use Rattle.gen1_stats.specs.Teams.{Sheet}
use Rattle.gen1_text.specs.MemberLines.{changed, headed, behind, result_then, pieces_of, trimmed, number_of, Spread, part_of, with_parts}
use Rattle.gen1_text.specs.Texts.{at_line, parts_members, told}
use Rattle.gen1_text.specs.declared.fault.MemberFault.TheVariants.{SeventhMember}
use Rattle.gen1_text.specs.declared.fault.TextFault.{TextFault}
use Rattle.gen1_text.specs.declared.fault.TextFault.TheVariants.{Line}
use Rattle.std.specs.List.{onto_first, position_or_len, slice_split, list_all, range_with_len}
use Rattle.std.proofs.lemmas.List.{length-map, take_rest}
use Rattle.std.proofs.lemmas.List.Sums.{count_by-le-length, position_or_len_is}
use Rattle.std.proofs.lemmas.List.Splits.{length-slice_split, slice_split_first}
use Rattle.std.proofs.Math.Seq.{drop-cons}
use Rattle.std.specs.Char.{digit_value, is_ascii_digit, is_ascii_alphanumeric, to_ascii_lowercase}
use Rattle.std.specs.Str.Parse.{digits_value_after}
use Rattle.std.specs.Option.{option_or}
use Rattle.std.proofs.lemmas.Str.Ascii.{lowercase-lowercase}
use Rattle.std.proofs.lemmas.List.FromFn.{get_or-range_with_len, length-range_with_len}
use Rattle.gen1_tables.proofs.Named.{agree_at}
use Rattle.gen1_tables.specs.Names.{move_name, move_names, name_at, species_name, species_names}
use Rattle.gen1_text.specs.Ids.{id_of, move_called, other_name, place_called, species_called}

pub behind-more : {E : Type 0} (sheets : List Sheet) (sheet : Sheet) (r : Result (List Sheet) E) → behind (sheets ++ sheet ∷ []) r ≡ behind sheets (behind (sheet ∷ []) r)
behind-more sheets sheet (Ok more) = ap Ok (append_assoc sheets (sheet ∷ []) more)
behind-more sheets sheet (Err fault) = refl

pub behind-none : {E : Type 0} (r : Result (List Sheet) E) → behind [] r ≡ r
behind-none (Ok more) = refl
behind-none (Err fault) = refl

-- a line, where no member is current
module _ (members number : ℕ) (current : Option Sheet) (pieces lines : List (List ℕ)) (line : List ℕ) (between : current ≡ None) (split : pieces ≡ line ∷ lines) where
  pub told-parting : parts_members line ≡ true → told members number current pieces ≡ told members (number + 1) None lines
  unfolding told
  told-parting parts = rw (between, split, parts) refl

  pub told-seventh : parts_members line ≡ false → 6 ≤ members → told members number current pieces ≡ Err (Line (number + 1) SeventhMember)
  unfolding told
  told-seventh parts full = let test : nat_le 6 members ≡ true = grind (arith, nat_tests) in rw (between, split, parts, test) refl

  told-head : (said : Result Sheet TextFault) → parts_members line ≡ false → members < 6 → said ≡ at_line (number + 1) (headed line)
      → told members number current pieces ≡ result_then (λ sheet. told members (number + 1) (Some sheet) lines) said
  unfolding told
  told-head said parts room is = let test : nat_le 6 members ≡ false = grind (arith, nat_tests) in rw (between, split, is, parts, test) refl

  pub told-head_fault : (said : Result Sheet TextFault) (fault : TextFault) → parts_members line ≡ false → members < 6 → said ≡ at_line (number + 1) (headed line) → said ≡ Err fault
      → told members number current pieces ≡ Err fault
  told-head_fault said fault parts room is wrong = told-head said parts room is ∙ ap (result_then (λ sheet. told members (number + 1) (Some sheet) lines)) wrong

  pub told-head_made : (said : Result Sheet TextFault) (sheet : Sheet) → parts_members line ≡ false → members < 6 → said ≡ at_line (number + 1) (headed line) → said ≡ Ok sheet
      → told members number current pieces ≡ told members (number + 1) (Some sheet) lines
  told-head_made said sheet parts room is made = told-head said parts room is ∙ ap (result_then (λ sheet. told members (number + 1) (Some sheet) lines)) made

-- a line, where a member is current
module _ (members number : ℕ) (current : Option Sheet) (pieces lines : List (List ℕ)) (line : List ℕ) (sheet : Sheet) (within : current ≡ Some sheet) (split : pieces ≡ line ∷ lines) where
  pub told-end_of_member : parts_members line ≡ true → told members number current pieces ≡ behind (sheet ∷ []) (told (members + 1) (number + 1) None lines)
  unfolding told
  told-end_of_member parts = rw (within, split, parts) refl

  told-change : (said : Result Sheet TextFault) → parts_members line ≡ false → said ≡ at_line (number + 1) (changed line sheet)
      → told members number current pieces ≡ result_then (λ sheet. told members (number + 1) (Some sheet) lines) said
  unfolding told
  told-change said parts is = rw (within, split, is, parts) refl

  pub told-change_fault : (said : Result Sheet TextFault) (fault : TextFault) → parts_members line ≡ false → said ≡ at_line (number + 1) (changed line sheet) → said ≡ Err fault
      → told members number current pieces ≡ Err fault
  told-change_fault said fault parts is wrong = told-change said parts is ∙ ap (result_then (λ sheet. told members (number + 1) (Some sheet) lines)) wrong

  pub told-change_made : (said : Result Sheet TextFault) (made : Sheet) → parts_members line ≡ false → said ≡ at_line (number + 1) (changed line sheet) → said ≡ Ok made
      → told members number current pieces ≡ told members (number + 1) (Some made) lines
  told-change_made said made parts is here = told-change said parts is ∙ ap (result_then (λ sheet. told members (number + 1) (Some sheet) lines)) here

pub told-end : (members number : ℕ) (current : Option Sheet) (pieces : List (List ℕ)) → current ≡ None → pieces ≡ [] → told members number current pieces ≡ Ok []
unfolding told
told-end members number current pieces between none = rw (between, none) refl

pub told-last : (members number : ℕ) (current : Option Sheet) (pieces : List (List ℕ)) (sheet : Sheet) → current ≡ Some sheet → pieces ≡ []
    → told members number current pieces ≡ Ok (sheet ∷ [])
unfolding told
told-last members number current pieces sheet within none = rw (within, none) refl

-- what holds where a member is current
pub held : (current : Option Sheet) (sheet : Sheet) (P : Type 0) → current ≡ Some sheet → OnSome current P → P
held None sheet P e h = absurd (cc)
held (Some other) sheet P e h = h

-- The first of the pieces of a text.

-- a list without separators is a single part
slice_split_whole : (p : ℕ → Bool) (xs : List ℕ) → length xs ≤ position_or_len p xs → slice_split p xs ≡ xs ∷ []
slice_split_whole p [] h = refl
slice_split_whole p (x ∷ xs) h = by_test (p x) h (slice_split_whole p xs)
  where
    by_test : (t : Bool) → length (x ∷ xs) ≤ cond (not t) (1 + position_or_len p xs) 0 → (length xs ≤ position_or_len p xs → slice_split p xs ≡ xs ∷ [])
        → cond t ([] ∷ slice_split p xs) (onto_first x (slice_split p xs)) ≡ (x ∷ xs) ∷ []
    by_test true h whole = absurd (omega arith)
    by_test false h whole = ap (onto_first x) (whole (omega arith))

pub pieces_of_at : (separator place : ℕ) (text piece : List ℕ) → place ≡ position_or_len (λ b. b == separator) text → place < length text → piece ≡ trimmed (take place text)
    → pieces_of separator text ≡ piece ∷ pieces_of separator (take (length text - (place + 1)) (drop (place + 1) text))
unfolding pieces_of
pieces_of_at separator place text piece e h is = rw (is, e, take_rest) (ap (map trimmed) (slice_split_first (λ b. b == separator) text 0 (omega arith)))

pub pieces_of_whole : (separator place : ℕ) (text piece : List ℕ) → place ≡ position_or_len (λ b. b == separator) text → length text ≤ place → piece ≡ trimmed text
    → pieces_of separator text ≡ piece ∷ []
unfolding pieces_of
pieces_of_whole separator place text piece e h is = rw is (ap (map trimmed) (slice_split_whole (λ b. b == separator) text (omega arith)))

-- a text has one more piece than separators
pub length-pieces_of : (separator : ℕ) (text : List ℕ) → length (pieces_of separator text) ≤ length text + 1
unfolding pieces_of
length-pieces_of separator text =
    omega (arith, length-map (slice_split (λ b. b == separator) text) trimmed, length-slice_split (λ b. b == separator) text, count_by-le-length (λ b. b == separator) text)

-- What parts say, a part at a time.

pub parts_stop : (most : ℕ) (spread : Spread) (pieces parts : List (List ℕ)) (part : List ℕ) → pieces ≡ part ∷ parts → part_of most part ≡ None
    → with_parts most spread pieces ≡ None
unfolding with_parts
parts_stop most spread pieces parts part split none =
    ap (with_parts most spread) split ∙ ap (λ o. option_and_then (λ said. with_parts most (slice_set spread said.0 (Some said.1)) parts) o) none

pub parts_go : (most : ℕ) (spread : Spread) (pieces parts : List (List ℕ)) (part : List ℕ) (said : ℕ × ℕ) → pieces ≡ part ∷ parts → part_of most part ≡ Some said
    → with_parts most spread pieces ≡ with_parts most (slice_set spread said.0 (Some said.1)) parts
unfolding with_parts
parts_go most spread pieces parts part said split some =
    ap (with_parts most spread) split ∙ ap (λ o. option_and_then (λ said. with_parts most (slice_set spread said.0 (Some said.1)) parts) o) some

pub parts_end : (most : ℕ) (spread : Spread) (pieces : List (List ℕ)) → pieces ≡ [] → with_parts most spread pieces ≡ Some spread
unfolding with_parts
parts_end most spread pieces none = ap (with_parts most spread) none

-- A whole number, a digit at a time.

-- the number that digits make after those of n, if it is at most `most`
unfoldable pub number_on : ℕ → ℕ → List ℕ → Option ℕ
number_on most n ds = if list_all is_ascii_digit ds && nat_le (digits_value_after 10 n ds) most then Some (digits_value_after 10 n ds) else None

-- more digits make no smaller number
digits_value_after-ge : (ds : List ℕ) (n : ℕ) → n ≤ digits_value_after 10 n ds
digits_value_after-ge [] n = omega arith
digits_value_after-ge (d ∷ ds) n = let more = digits_value_after-ge ds (n * 10 + digit_value d) in omega arith

pub number_on-start : (most : ℕ) (ds : List ℕ) → 0 < length ds → number_on most 0 ds ≡ number_of most ds
unfolding number_on number_of
number_on-start most ds h = grind (arith, nat_tests)

pub number_of-empty : (most : ℕ) (ds : List ℕ) → length ds ≡ 0 → None ≡ number_of most ds
unfolding number_of
number_of-empty most [] h = refl
number_of-empty most (d ∷ ds) h = absurd (omega arith)

pub number_on-end : (most n : ℕ) → n ≤ most → number_on most n [] ≡ Some n
unfolding number_on
number_on-end most n h = grind (arith, nat_tests)

pub number_on-digit : (most n d : ℕ) (ds : List ℕ) → is_ascii_digit d ≡ true → number_on most n (d ∷ ds) ≡ number_on most (n * 10 + digit_value d) ds
unfolding number_on
number_on-digit most n d ds h = ap (λ b. if (b && list_all is_ascii_digit ds) && nat_le (digits_value_after 10 (n * 10 + digit_value d) ds) most then Some (digits_value_after 10 (n * 10 + digit_value d) ds) else None) h

pub number_on-other : (most n d : ℕ) (ds : List ℕ) → is_ascii_digit d ≡ false → number_on most n (d ∷ ds) ≡ None
unfolding number_on
number_on-other most n d ds h = ap (λ b. if (b && list_all is_ascii_digit ds) && nat_le (digits_value_after 10 (n * 10 + digit_value d) ds) most then Some (digits_value_after 10 (n * 10 + digit_value d) ds) else None) h

pub number_on-large : (most n : ℕ) (ds : List ℕ) → most < n → number_on most n ds ≡ None
unfolding number_on
number_on-large most n ds h = let more = digits_value_after-ge ds n in grind (arith, nat_tests)

digit_value-digit : (d : ℕ) → is_ascii_digit d ≡ true → digit_value d ≡ d - 48
digit_value-digit d h = grind (arith, nat_tests)

-- the same at a place of a text
pub number_on-other_at : (most n i : ℕ) (text : List ℕ) → i < length text → is_ascii_digit (get_or text i 0) ≡ false → number_on most n (drop i text) ≡ None
number_on-other_at most n i text h other = rw (drop-cons text i 0 h) (number_on-other most n _ _ other)

number_on-digit_less : (most n d : ℕ) (ds : List ℕ) → is_ascii_digit d ≡ true → number_on most n (d ∷ ds) ≡ number_on most (n * 10 + (d - 48)) ds
number_on-digit_less most n d ds h = number_on-digit most n d ds h ∙ ap (λ v. number_on most (n * 10 + v) ds) (digit_value-digit d h)

pub number_on-digit_at : (most n i : ℕ) (text : List ℕ) → i < length text → is_ascii_digit (get_or text i 0) ≡ true
    → number_on most n (drop i text) ≡ number_on most (n * 10 + (get_or text i 0 - 48)) (drop (i + 1) text)
number_on-digit_at most n i text h digit = rw (add-one, drop-cons text i 0 h) (number_on-digit_less most n (get_or text i 0) (drop (suc i) text) digit)

pub number_on-end_at : (most n i : ℕ) (text : List ℕ) → length text ≤ i → n ≤ most → number_on most n (drop i text) ≡ Some n
number_on-end_at most n i text h fits = rw (drop_of_length-le text h) (number_on-end most n fits)

-- The species or move that a name finds.

abbrev pub has_id : List ℕ → List ℕ → Bool
has_id text name = bytes_eq (id_of name) (id_of text)

-- no name before this place has the same letters as the text
pub record NoneBefore (names : List (List ℕ)) (text : List ℕ) (place : ℕ) : Type 0 where
  pub none : (k : ℕ) → k + 1 < place → has_id text (get_or names k []) ≡ false

position_at : (names : List (List ℕ)) (text : List ℕ) (i : ℕ) → position_or_len (has_id text) names ≡ i → i < length names → position (has_id text) names ≡ Some i
position_at names text i e h = grind (arith, nat_tests)

position_none : (names : List (List ℕ)) (text : List ℕ) → position_or_len (has_id text) names ≡ length names → position (has_id text) names ≡ None
position_none names text e = grind (arith, nat_tests)

pub place_found : (names : List (List ℕ)) (text : List ℕ) (place : ℕ) → 1 ≤ place → place ≤ length names → NoneBefore names text place
    → has_id text (name_at names place) ≡ true → place_called names text ≡ Some place
unfolding place_called name_at
place_found names text place low high before here =
    let at = position_or_len_is (has_id text) names (place - 1) [] (omega arith) (λ k h. before.none k (omega arith)) (λ h. here) in
    ap (λ o. option_map (λ index. index + 1) o) (position_at names text (place - 1) at (omega arith)) ∙ ap Some (omega arith)

pub place_missing : (names : List (List ℕ)) (text : List ℕ) (place : ℕ) → place ≡ length names + 1 → NoneBefore names text place → place_called names text ≡ None
unfolding place_called
place_missing names text place all before =
    let at = position_or_len_is (has_id text) names (length names) [] (omega arith) (λ k h. before.none k (omega arith)) (λ h. absurd (omega arith)) in
    ap (λ o. option_map (λ index. index + 1) o) (position_none names text at)

-- one more name that has other letters
pub none_more : (names : List (List ℕ)) (text : List ℕ) (place : ℕ) → 1 ≤ place → NoneBefore names text place → has_id text (name_at names place) ≡ false
    → NoneBefore names text (place + 1)
unfolding name_at
none_more names text place low before here = record { none = λ k h. by_place k h (nat_lt (k + 1) place) refl }
  where
    by_place : (k : ℕ) → k + 1 < place + 1 → (b : Bool) → nat_lt (k + 1) place ≡ b → has_id text (get_or names k []) ≡ false
    by_place k h true e = before.none k (grind (arith, nat_tests))
    by_place k h false e = ap (λ i. has_id text (get_or names i [])) (grind (arith, nat_tests)) ∙ here

pub length-species_names : length species_names ≡ 151
unfolding species_names
length-species_names = refl

pub length-move_names : length move_names ≡ 165
unfolding move_names
length-move_names = refl

-- what the two look-ups test
pub species_found : (text : List ℕ) (place : ℕ) → 1 ≤ place → place ≤ 151 → NoneBefore species_names text place → has_id text (species_name place) ≡ true
    → species_called text ≡ Some place
unfolding species_called species_name
species_found text place low high before here = place_found species_names text place low (omega (arith, length-species_names)) before here

pub species_missing : (text : List ℕ) (place : ℕ) → place ≡ 152 → NoneBefore species_names text place → species_called text ≡ None
unfolding species_called
species_missing text place all before = place_missing species_names text place (omega (arith, length-species_names)) before

pub species_more : (text : List ℕ) (place : ℕ) → 1 ≤ place → NoneBefore species_names text place → has_id text (species_name place) ≡ false → NoneBefore species_names text (place + 1)
unfolding species_name
species_more text place low before here = none_more species_names text place low before here

pub move_found : (text : List ℕ) (place : ℕ) → 1 ≤ place → place ≤ 165 → NoneBefore move_names text place → has_id text (move_name place) ≡ true
    → place_called move_names text ≡ Some place
unfolding move_name
move_found text place low high before here = place_found move_names text place low (omega (arith, length-move_names)) before here

pub move_missing : (text : List ℕ) (place : ℕ) → place ≡ 166 → NoneBefore move_names text place → place_called move_names text ≡ None
move_missing text place all before = place_missing move_names text place (omega (arith, length-move_names)) before

pub move_more : (text : List ℕ) (place : ℕ) → 1 ≤ place → NoneBefore move_names text place → has_id text (move_name place) ≡ false → NoneBefore move_names text (place + 1)
unfolding move_name
move_more text place low before here = none_more move_names text place low before here

-- the number of what `new` returns for a number
pub numbered : (size n m : ℕ) (o : Option ℕ) → o ≡ (if nat_le 1 n && nat_le n size then Some n else None) → o ≡ Some m → m ≡ n
numbered size n m o made some = grind (arith, nat_tests)

-- what a test of a name says
pub name_tested : (names : ℕ → List ℕ) (text name : List ℕ) (m n : ℕ) (b : Bool) → m ≡ n → name ≡ names m → b ≡ has_id text name → has_id text (names n) ≡ b
name_tested names text name m n b same named tested = cc

-- each name of a list is found at its own place, which is computed once for each list
place_own : (names : List (List ℕ)) (size : ℕ) → map (λ n. place_called names (name_at names n)) (range_with_len 1 size) ≡ map Some (range_with_len 1 size)
    → (n : ℕ) → 1 ≤ n → n ≤ size → place_called names (name_at names n) ≡ Some n
place_own names size each n low high =
    let at_n : get_or (range_with_len 1 size) (n - 1) 0 ≡ n = get_or-range_with_len 1 size (n - 1) 0 (omega arith) ∙ omega arith in
    let size_is = length-range_with_len 1 size in
    subst (λ m. place_called names (name_at names m) ≡ Some m) at_n
    (agree_at (λ m. place_called names (name_at names m)) Some (range_with_len 1 size) (range_with_len 1 size) 0 0 each (n - 1) (omega arith) (omega arith))

-- each name finds its own species, or its own move
pub species_own : (n : ℕ) → 1 ≤ n → n ≤ 151 → species_called (species_name n) ≡ Some n
unfolding species_called species_name
species_own = place_own species_names 151 (unfold species_names in unfold place_called in unfold name_at in refl)

place_of_move : (n : ℕ) → 1 ≤ n → n ≤ 165 → place_called move_names (move_name n) ≡ Some n
unfolding move_name
place_of_move = place_own move_names 165 (unfold move_names in unfold place_called in unfold name_at in refl)

pub move_own : (n : ℕ) → 1 ≤ n → n ≤ 165 → move_called (move_name n) ≡ Some n
unfolding move_called
move_own n low high = ap (λ o. option_or o (other_name (move_name n))) (place_of_move n low high)

-- only the letters and digits of a text count, whatever their case

letter_kept : (b : ℕ) → is_ascii_alphanumeric b ≡ true → is_ascii_alphanumeric (to_ascii_lowercase b) ≡ true
letter_kept b h = grind (arith, nat_tests)

pub id_of-id_of : (text : List ℕ) → id_of (id_of text) ≡ id_of text
id_of-id_of [] = refl
id_of-id_of (b ∷ text) = by (is_ascii_alphanumeric b) refl (id_of-id_of text)
  where
    by : (t : Bool) → is_ascii_alphanumeric b ≡ t → id_of (id_of text) ≡ id_of text
        → id_of (map to_ascii_lowercase (cond t (b ∷ filter is_ascii_alphanumeric text) (filter is_ascii_alphanumeric text)))
        ≡ map to_ascii_lowercase (cond t (b ∷ filter is_ascii_alphanumeric text) (filter is_ascii_alphanumeric text))
    by true e h = rw (letter_kept b e, lowercase-lowercase b) (ap (λ (l : List ℕ). to_ascii_lowercase b ∷ l) h)
    by false e h = h

place_by_letters : (names : List (List ℕ)) (text : List ℕ) → place_called names text ≡ place_called names (id_of text)
unfolding place_called
place_by_letters names text =
    ap (λ (letters : List ℕ). option_map (λ index. index + 1) (position (λ name. bytes_eq (id_of name) letters) names)) (sym (id_of-id_of text))

other_by_letters : (text : List ℕ) → other_name text ≡ other_name (id_of text)
other_by_letters text =
    ap (λ (letters : List ℕ). if bytes_eq (id_of (codes "Vise Grip")) letters then Some 11
    else if bytes_eq (id_of (codes "Hi Jump Kick")) letters then Some 136 else None) (sym (id_of-id_of text))

pub species_by_letters : (text : List ℕ) → species_called text ≡ species_called (id_of text)
unfolding species_called
species_by_letters text = place_by_letters species_names text

pub move_by_letters : (text : List ℕ) → move_called text ≡ move_called (id_of text)
unfolding move_called
move_by_letters text =
    ap (λ (o : Option ℕ). option_or o (other_name text)) (place_by_letters move_names text) ∙ ap (option_or (place_called move_names (id_of text))) (other_by_letters text)

-- a text without letters and digits isn't a name

pub no_species : species_called [] ≡ None
unfolding species_called species_names place_called
no_species = refl

pub no_move : move_called [] ≡ None
unfolding move_called move_names place_called
no_move = refl
