-- What the lines of a member say, the words in a line, and EVs and IVs (docs/TEAM_TEXT.md, "Export text").
use Rattle.std.specs.Prelude.{Bool, List, None, Option, Some, [], drop, false, if◌then◌else◌, length, map, nat_eq, nat_le, nat_lt, take, ℕ, ◌&&◌, ◌-◌, ◌==◌, ◌||◌, ◌∷◌, Err, Ok, Result, ◌++◌, bytes_eq, codes, not, option_and_then, option_map, replicate, slice_index_or, slice_set, unwrap_or, ◌*◌, ◌/◌}
use Rattle.std.specs.Char.{is_ascii_digit, is_ascii_whitespace}
use Rattle.std.specs.List.{list_all, prefix_len, slice_split, starts_with, suffix_len, after_first, before_first, after_last, ends_with, list_any}
use Rattle.std.specs.Str.Parse.{digits_value}
use denote.Ref.{Bor}
use Rattle.gen1_text.specs.declared.cuts.Pieces.{Pieces}
use Rattle.arrayvec.specs.ArrayVec.{ArrayVec}
use Rattle.gen1_stats.specs.Teams.{Sheet}
use Rattle.gen1_stats.specs.Stats.{hp_dv}
use Rattle.gen1_text.specs.declared.fault.MemberFault.{MemberFault}
use Rattle.gen1_text.specs.declared.fault.MemberFault.TheVariants.{HpIv, SpecialEvs, SpecialIvs, Evs, FifthMove, Item, Ivs, Level, Move, Species, UnknownLine}
use Rattle.std.specs.Option.{ok_or, option_map_or}
use Rattle.gen1_text.specs.Ids.{move_called, species_called}

-- Parts of a text, the numbers in it, and steps that may fail (docs/TEAM_TEXT.md, "Export text", "Packed line").

abbrev pub trimmed_start : List ℕ → List ℕ
trimmed_start text = drop (prefix_len is_ascii_whitespace text) text

abbrev pub trimmed_end : List ℕ → List ℕ
trimmed_end text = take (length text - suffix_len is_ascii_whitespace text) text

-- a text without the white space around it
unfoldable pub trimmed : List ℕ → List ℕ
trimmed text = trimmed_end (trimmed_start text)

-- the text between separators, each piece without the white space around it
unfoldable pub pieces_of : ℕ → List ℕ → List (List ℕ)
pieces_of separator text = map trimmed (slice_split (λ b. b == separator) text)

-- what follows a key, if the line begins with it
unfoldable pub text_after : List ℕ → List ℕ → Option (List ℕ)
text_after key line = if starts_with nat_eq line key then Some (drop (length key) line) else None

-- whether a part occurs in a line
abbrev pub has_inside : List ℕ → List ℕ → Bool
has_inside part [] = false
has_inside part (b ∷ line) = starts_with nat_eq (b ∷ line) part || has_inside part line

-- whether a text is a whole number of at most `most`: one digit or more, and nothing else
abbrev pub is_number : ℕ → List ℕ → Bool
is_number most text = nat_lt 0 (length text) && (list_all is_ascii_digit text && nat_le (digits_value 10 text) most)

-- the whole number that a text represents, if it is at most `most`
unfoldable pub number_of : ℕ → List ℕ → Option ℕ
number_of most text = if is_number most text then Some (digits_value 10 text) else None

-- Steps that may fail.

-- a step after another
abbrev pub result_then : {A B E : Type 0} → (A → Result B E) → Result A E → Result B E
result_then step (Ok x) = step x
result_then step (Err fault) = Err fault

-- these elements, and then those of the result
abbrev pub behind : {A E : Type 0} → List A → Result (List A) E → Result (List A) E
behind first (Ok more) = Ok (first ++ more)
behind first (Err fault) = Err fault

-- The pieces that the code's `Pieces` has still to return.

-- the pieces of the rest, if there is one
abbrev pub pieces_of_rest : ℕ → Option (Bor (List ℕ)) → List (List ℕ)
pieces_of_rest separator None = []
pieces_of_rest separator (Some rest) = pieces_of separator rest.now

abbrev pub pieces_left : Pieces → List (List ℕ)
pieces_left pieces = pieces_of_rest pieces.separator pieces.rest

-- What the code returns, in the terms of the specifications.

-- a list of members, or an error
abbrev pub members_view : {E : Type 0} → Result (ArrayVec Sheet) E → Result (List Sheet) E
members_view (Ok members) = Ok members.items
members_view (Err fault) = Err fault

-- EVs and IVs (docs/TEAM_TEXT.md, "EVs and experience", "IVs and DVs").

-- the numbers of HP, Atk, Def, SpA, SpD and Spe, if given
abbrev pub Spread : Type 0
Spread = List (Option ℕ)

abbrev pub nothing_said : Spread
nothing_said = replicate 6 None

-- the place of a stat in a spread; Special is at SpA
unfoldable pub stat_named : List ℕ → Option ℕ
stat_named name =
    if bytes_eq name (codes "HP") then Some 0
    else if bytes_eq name (codes "Atk") then Some 1
    else if bytes_eq name (codes "Def") then Some 2
    else if bytes_eq name (codes "SpA") then Some 3
    else if bytes_eq name (codes "Spc") then Some 3
    else if bytes_eq name (codes "SpD") then Some 4
    else if bytes_eq name (codes "Spe") then Some 5
    else None

-- what a part such as `252 HP` says: a stat, and its number, at most `most`
unfoldable pub part_of : ℕ → List ℕ → Option (ℕ × ℕ)
part_of most part =
    option_and_then (λ number. option_map (λ stat. (stat, number)) (stat_named (after_first (λ b. b == 32) part)))
    (number_of most (before_first (λ b. b == 32) part))

-- a spread after parts; the last of two parts about one stat counts
unfoldable pub with_parts : ℕ → Spread → List (List ℕ) → Option Spread
with_parts most spread [] = Some spread
with_parts most spread (part ∷ parts) =
    option_and_then (λ said. with_parts most (slice_set spread said.0 (Some said.1)) parts) (part_of most part)

-- the number of a stat, or the default if it is not given
abbrev pub said_or : ℕ → ℕ → Spread → ℕ
said_or number stat spread = unwrap_or (slice_index_or spread stat None) number

-- the experience whose root is the EV: the points of both are a fourth of it
abbrev pub experience : ℕ → ℕ
experience ev = ev * ev

-- the experience of HP, Attack, Defense, Speed and Special; SpD must have the EVs of SpA if it is given
unfoldable pub exp_of_evs : Spread → Result (List ℕ) MemberFault
exp_of_evs evs =
    let special = said_or 0 3 evs in
    if said_or special 4 evs == special
    then Ok (experience (said_or 0 0 evs) ∷ experience (said_or 0 1 evs) ∷ experience (said_or 0 2 evs) ∷ experience (said_or 0 5 evs) ∷ experience special ∷ [])
    else Err SpecialEvs

-- the DV of a stat is half its IV, which is 31 if it is not given
abbrev pub dv_said : ℕ → Spread → ℕ
dv_said stat ivs = said_or 31 stat ivs / 2

-- the DVs of Attack, Defense, Speed and Special; SpD must have that of SpA, and HP the one that follows from the others, if they
-- are given
unfoldable pub dvs_of_ivs : Spread → Result (List ℕ) MemberFault
dvs_of_ivs ivs =
    let special = dv_said 3 ivs in
    let hp = hp_dv (dv_said 1 ivs) (dv_said 2 ivs) (dv_said 5 ivs) special in
    if not (said_or (said_or 31 3 ivs) 4 ivs / 2 == special) then Err SpecialIvs
    else if not (said_or (2 * hp) 0 ivs / 2 == hp) then Err HpIv
    else Ok (dv_said 1 ivs ∷ dv_said 2 ivs ∷ dv_said 5 ivs ∷ special ∷ [])

-- a member of which only the species is given: level 100, the highest DVs, the experience of 252 EVs, and no move
abbrev pub fresh : ℕ → Sheet
fresh species = record { species = species; level = 100; dvs = replicate 4 15; exp = replicate 5 (experience 252); moves = [] }

-- a first line without a gender
unfoldable pub without_gender : List ℕ → List ℕ
without_gender line =
    if ends_with nat_eq line (codes " (M)") || ends_with nat_eq line (codes " (F)") then take (length line - 4) line else line

-- the species of a first line: in brackets after a nickname, or the line itself
unfoldable pub species_text : List ℕ → List ℕ
species_text line = if ends_with nat_eq line (codes ")") then after_last (λ b. b == 40) line else line

-- the member of a species that a text names
unfoldable pub named : List ℕ → Result Sheet MemberFault
named text = result_then (λ species. Ok (fresh species)) (ok_or (species_called text) Species)

-- what a first line says
unfoldable pub headed : List ℕ → Result Sheet MemberFault
headed line = if has_inside (codes " @ ") line then Err Item else named (species_text (without_gender line))

unfoldable pub with_level : List ℕ → Sheet → Result Sheet MemberFault
with_level text sheet =
    result_then (λ level. if level == 0 then Err Level else Ok (record sheet { level = level })) (ok_or (number_of 100 text) Level)

unfoldable pub with_evs : List ℕ → Sheet → Result Sheet MemberFault
with_evs text sheet =
    result_then (λ evs. result_then (λ exp. Ok (record sheet { exp = exp })) (exp_of_evs evs))
    (ok_or (with_parts 255 nothing_said (pieces_of 47 text)) Evs)

unfoldable pub with_ivs : List ℕ → Sheet → Result Sheet MemberFault
with_ivs text sheet =
    result_then (λ ivs. result_then (λ dvs. Ok (record sheet { dvs = dvs })) (dvs_of_ivs ivs))
    (ok_or (with_parts 31 nothing_said (pieces_of 47 text)) Ivs)

-- one more move, with three PP ups
unfoldable pub with_move : List ℕ → Sheet → Result Sheet MemberFault
with_move name sheet =
    if nat_le 4 (length sheet.moves) then Err FifthMove
    else result_then (λ move. Ok (record sheet { moves = sheet.moves ++ (move, 3) ∷ [] })) (ok_or (move_called name) Move)

-- keys of lines about what the first generation does not have
abbrev pub idle_keys : List (List ℕ)
idle_keys =
    codes "Ability:" ∷ codes "Shiny:" ∷ codes "Happiness:" ∷ codes "Pokeball:" ∷ codes "Hidden Power:" ∷ codes "Tera Type:"
    ∷ codes "Gigantamax:" ∷ codes "Dynamax Level:" ∷ []

-- whether a line has no effect: it begins with such a key, or names a nature
unfoldable pub is_idle : List ℕ → Bool
is_idle line = list_any (λ key. starts_with nat_eq line key) idle_keys || ends_with nat_eq line (codes " Nature")

-- what a line after the first does to a member
unfoldable pub changed : List ℕ → Sheet → Result Sheet MemberFault
changed line sheet =
    option_map_or (λ text. with_level (trimmed text) sheet) (text_after (codes "Level:") line)
    (option_map_or (λ text. with_evs text sheet) (text_after (codes "EVs:") line)
    (option_map_or (λ text. with_ivs text sheet) (text_after (codes "IVs:") line)
    (option_map_or (λ text. with_move text sheet) (text_after (codes "-") line)
    (if is_idle line then Ok sheet else Err UnknownLine))))
