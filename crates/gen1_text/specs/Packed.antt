-- What a packed line says: its members, each by twelve fields, and the team that they make (docs/TEAM_TEXT.md, "Packed line").
use Rattle.std.specs.Prelude.{Err, List, None, Ok, Option, Result, Some, [], bytes_eq, codes, if◌then◌else◌, length, option_and_then, option_map, slice_index_or, ℕ, ◌==◌, ◌∷◌, nat_le, not, ◌+◌}
use Rattle.std.specs.Option.{ok_or}
use Rattle.gen1_stats.specs.Teams.{Sheet, team_of, team_refusal}
use Rattle.gen1_text.specs.MemberLines.{with_level, with_move, named, result_then, number_of, pieces_of, behind, Spread, dvs_of_ivs, exp_of_evs, nothing_said}
use Rattle.gen1_text.specs.declared.fault.MemberFault.{MemberFault}
use Rattle.gen1_text.specs.declared.fault.MemberFault.TheVariants.{Evs, Item, Ivs}
use Rattle.gen1_stats.specs.Members.{Member}
use Rattle.gen1_text.specs.declared.fault.PackedFault.{PackedFault}
use Rattle.gen1_text.specs.declared.fault.PackedFault.TheVariants.{Field, Fields, SeventhMember, Team}

-- The fields of a member in a packed line (docs/TEAM_TEXT.md, "Packed line").

-- a field of a member, counted from 0; empty after the last
unfoldable pub field : ℕ → List ℕ → List ℕ
field number member = slice_index_or (pieces_of 124 member) number []

-- the species, or the nickname if that is empty
unfoldable pub species_field : List ℕ → List ℕ
species_field member = if length (field 1 member) == 0 then field 0 member else field 1 member

unfoldable pub without_item : List ℕ → Sheet → Result Sheet MemberFault
without_item text sheet = if length text == 0 then Ok sheet else Err Item

-- the moves of the pieces that are not empty
unfoldable pub with_moves : List (List ℕ) → Sheet → Result Sheet MemberFault
with_moves [] sheet = Ok sheet
with_moves (name ∷ names) sheet = result_then (λ sheet. with_moves names sheet) (if length name == 0 then Ok sheet else with_move name sheet)

-- a number of at most `most`, or nothing
unfoldable pub number_if_any : ℕ → List ℕ → Option (Option ℕ)
number_if_any most text = if length text == 0 then Some None else option_map Some (number_of most text)

-- the numbers of pieces, if each is a number or empty
unfoldable pub each_number : ℕ → List (List ℕ) → Option Spread
each_number most [] = Some []
each_number most (piece ∷ pieces) =
    option_and_then (λ number. option_map (λ numbers. number ∷ numbers) (each_number most pieces)) (number_if_any most piece)

-- what six pieces say, in the order of a spread
unfoldable pub six_numbers : ℕ → List (List ℕ) → Option Spread
six_numbers most pieces = if length pieces == 6 then each_number most pieces else None

-- EVs: the highest if the field is empty, and zeros for a lone 0
unfoldable pub with_packed_evs : List ℕ → Sheet → Result Sheet MemberFault
with_packed_evs text sheet =
    if length text == 0 then Ok sheet
    else result_then (λ evs. result_then (λ exp. Ok (record sheet { exp = exp })) (exp_of_evs evs))
    (ok_or (if bytes_eq text (codes "0") then Some nothing_said else six_numbers 255 (pieces_of 44 text)) Evs)

unfoldable pub with_packed_ivs : List ℕ → Sheet → Result Sheet MemberFault
with_packed_ivs text sheet =
    if length text == 0 then Ok sheet
    else result_then (λ ivs. result_then (λ dvs. Ok (record sheet { dvs = dvs })) (dvs_of_ivs ivs))
    (ok_or (six_numbers 31 (pieces_of 44 text)) Ivs)

unfoldable pub with_packed_level : List ℕ → Sheet → Result Sheet MemberFault
with_packed_level text sheet = if length text == 0 then Ok sheet else with_level text sheet

-- a member, or the error of a field
abbrev pub in_field : ℕ → ℕ → Result Sheet MemberFault → Result Sheet PackedFault
in_field member number (Ok sheet) = Ok sheet
in_field member number (Err fault) = Err (Field member number fault)

-- what a field does to a member, if those before it had no error
abbrev pub then_field : ℕ → ℕ → (Sheet → Result Sheet MemberFault) → Result Sheet PackedFault → Result Sheet PackedFault
then_field member number step before = result_then (λ sheet. in_field member number (step sheet)) before

-- what the fields of a member say, in order
unfoldable pub unpacked : ℕ → List ℕ → Result Sheet PackedFault
unpacked member text =
    if not (length (pieces_of 124 text) == 12) then Err (Fields member)
    else then_field member 11 (λ sheet. with_packed_level (field 10 text) sheet)
    (then_field member 9 (λ sheet. with_packed_ivs (field 8 text) sheet)
    (then_field member 7 (λ sheet. with_packed_evs (field 6 text) sheet)
    (then_field member 5 (λ sheet. with_moves (pieces_of 44 (field 4 text)) sheet)
    (then_field member 3 (λ sheet. without_item (field 2 text) sheet)
    (in_field member 2 (named (species_field text)))))))

-- the members of texts, after this many
unfoldable pub all_unpacked : ℕ → List (List ℕ) → Result (List Sheet) PackedFault
all_unpacked members [] = Ok []
all_unpacked members (text ∷ texts) =
    if nat_le 6 members then Err SeventhMember
    else result_then (λ sheet. behind (sheet ∷ []) (all_unpacked (members + 1) texts)) (unpacked (members + 1) text)

-- the members of a packed line
unfoldable pub members_packed : List ℕ → Result (List Sheet) PackedFault
members_packed text = all_unpacked 0 (pieces_of 93 text)

-- the team of these members, or why they are not one
abbrev pub team_unpacked : Result (List Sheet) PackedFault → Result (List Member) PackedFault
team_unpacked (Err fault) = Err fault
team_unpacked (Ok sheets) = elim (team_refusal sheets) [ None ↦ Ok (team_of sheets) | Some refusal ↦ Err (Team refusal) ]

-- the team of a packed line
abbrev pub team_packed : List ℕ → Result (List Member) PackedFault
team_packed text = team_unpacked (members_packed text)
