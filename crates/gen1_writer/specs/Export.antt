-- Members and teams as export text and as packed lines (docs/TEAM_TEXT.md, "Writing").
use Rattle.std.specs.Prelude.{List, [], if◌then◌else◌, min, slice_index, ℕ, ◌*◌, ◌==◌, ◌≤◌, ◌∷◌, codes, decimal, drop, length, map, nat_lt, ◌++◌, Bool, None, Option, Some, not, option_map, ◌+◌}
use Rattle.gen1_stats.specs.Teams.{Sheet, dv, team_refusal}
use Rattle.gen1_stats.specs.Stats.{hp_dv, root}
use Rattle.std.specs.List.{join_with_byte, list_all, list_any}
use Rattle.gen1_tables.specs.Names.{move_name, species_name}
use Rattle.gen1_text.specs.Ids.{id_of}
use Rattle.std.specs.Option.{option_or}
use Rattle.gen1_writer.specs.declared.written.WriteFault.{WriteFault}
use Rattle.gen1_writer.specs.declared.written.WriteFault.TheVariants.{PpUps, Team}
use Rattle.gen1_stats.specs.Refusals.{sentence_of}

-- EVs and IVs as they are written (docs/TEAM_TEXT.md, "EVs and experience", "IVs and DVs").

-- the EV of an experience: its root, but not above 252, from which on the stats are the same
abbrev pub ev : ℕ → ℕ
ev exp = min 252 (root exp)

-- the EV of HP, Attack, Defense, Speed or Special
abbrev pub ev_at : ℕ → Sheet → ℕ
ev_at k s = ev (slice_index s.exp k)

-- the EVs of HP, Atk, Def, SpA, SpD and Spe; the EV of Special is there twice
abbrev pub evs_of : Sheet → List ℕ
evs_of s = ev_at 0 s ∷ ev_at 1 s ∷ ev_at 2 s ∷ ev_at 4 s ∷ ev_at 4 s ∷ ev_at 3 s ∷ []

-- the IV of a DV
abbrev pub iv : ℕ → ℕ
iv dv = if dv == 15 then 31 else 2 * dv

-- the IVs of HP, Atk, Def, SpA, SpD and Spe
abbrev pub ivs_of : Sheet → List ℕ
ivs_of s =
    iv (hp_dv (dv 0 s) (dv 1 s) (dv 2 s) (dv 3 s)) ∷ iv (dv 0 s) ∷ iv (dv 1 s) ∷ iv (dv 3 s) ∷ iv (dv 3 s) ∷ iv (dv 2 s) ∷ []

-- DVs that a member may have
abbrev pub HasDvs : Sheet → Type 0
HasDvs s = (k : ℕ) → dv k s ≤ 15

-- lines, each with its line feed
abbrev pub ended : List (List ℕ) → List ℕ
ended [] = []
ended (line ∷ lines) = line ++ 10 ∷ ended lines

-- a number with its stat, such as `252 HP`
abbrev pub part : ℕ → List ℕ → List ℕ
part number stat = decimal number ++ codes " " ++ stat

abbrev pub ev_line : List ℕ → List ℕ
ev_line evs =
    codes "EVs: " ++ part (slice_index evs 0) (codes "HP") ++ codes " / " ++ part (slice_index evs 1) (codes "Atk")
    ++ codes " / " ++ part (slice_index evs 2) (codes "Def") ++ codes " / " ++ part (slice_index evs 3) (codes "SpA")
    ++ codes " / " ++ part (slice_index evs 4) (codes "SpD") ++ codes " / " ++ part (slice_index evs 5) (codes "Spe")

-- an IV after a slash; nothing for 31
abbrev pub iv_part : ℕ → List ℕ → List ℕ
iv_part iv stat = if iv == 31 then [] else (codes " / " ++ part iv stat)

abbrev pub iv_parts : List ℕ → List ℕ
iv_parts ivs =
    iv_part (slice_index ivs 0) (codes "HP") ++ iv_part (slice_index ivs 1) (codes "Atk") ++ iv_part (slice_index ivs 2) (codes "Def")
    ++ iv_part (slice_index ivs 3) (codes "SpA") ++ iv_part (slice_index ivs 4) (codes "SpD") ++ iv_part (slice_index ivs 5) (codes "Spe")

-- no line for level 100
abbrev pub level_lines : ℕ → List (List ℕ)
level_lines level = if level == 100 then [] else (codes "Level: " ++ decimal level) ∷ []

-- no line for EVs of 252 each
abbrev pub ev_lines : List ℕ → List (List ℕ)
ev_lines evs = if list_all (λ ev. ev == 252) evs then [] else ev_line evs ∷ []

-- the IVs without the first slash; no line for IVs of 31 each
abbrev pub iv_lines : List ℕ → List (List ℕ)
iv_lines ivs = if nat_lt (length (iv_parts ivs)) 2 then [] else (codes "IVs:" ++ drop 2 (iv_parts ivs)) ∷ []

abbrev pub move_line : ℕ × ℕ → List ℕ
move_line chosen = codes "- " ++ move_name chosen.0

-- the lines of a member
abbrev pub lines_of : Sheet → List (List ℕ)
lines_of s = species_name s.species ∷ level_lines s.level ++ ev_lines (evs_of s) ++ iv_lines (ivs_of s) ++ map move_line s.moves

abbrev pub block : Sheet → List ℕ
block s =
    species_name s.species ++ codes "\n" ++ ended (level_lines s.level) ++ ended (ev_lines (evs_of s)) ++ ended (iv_lines (ivs_of s))
    ++ ended (map move_line s.moves)

-- a block for each member, with an empty line between two
abbrev pub text_of : List Sheet → List ℕ
text_of sheets = join_with_byte 10 (map block sheets)

-- Members and teams as packed lines (docs/TEAM_TEXT.md, "Writing").

-- six places with commas between them
abbrev pub six : (ℕ → List ℕ) → List ℕ → List ℕ
six place numbers =
    place (slice_index numbers 0) ++ codes "," ++ place (slice_index numbers 1) ++ codes "," ++ place (slice_index numbers 2) ++ codes ","
    ++ place (slice_index numbers 3) ++ codes "," ++ place (slice_index numbers 4) ++ codes "," ++ place (slice_index numbers 5)

abbrev pub iv_place : ℕ → List ℕ
iv_place iv = if iv == 31 then [] else decimal iv

-- empty for 252 each, and a lone 0 for 0 each
abbrev pub packed_evs : List ℕ → List ℕ
packed_evs evs =
    if list_all (λ ev. ev == 252) evs then []
    else if list_all (λ ev. ev == 0) evs then codes "0"
    else six decimal evs

-- empty for 31 each; a lone 31 has an empty place
abbrev pub packed_ivs : List ℕ → List ℕ
packed_ivs ivs = if list_all (λ iv. iv == 31) ivs then [] else six iv_place ivs

-- empty for 100
abbrev pub packed_level : ℕ → List ℕ
packed_level level = if level == 100 then [] else decimal level

abbrev pub packed_moves : List (ℕ × ℕ) → List ℕ
packed_moves moves = join_with_byte 44 (map (λ chosen. id_of (move_name chosen.0)) moves)

-- the species in field 1, the moves in 5, EVs in 7, IVs in 9, and the level in 11
abbrev pub packed_member : Sheet → List ℕ
packed_member s =
    species_name s.species ++ codes "||||" ++ packed_moves s.moves ++ codes "||" ++ packed_evs (evs_of s) ++ codes "||"
    ++ packed_ivs (ivs_of s) ++ codes "||" ++ packed_level s.level ++ codes "|"

-- members with `]` between them, and a line feed
abbrev pub packed_of : List Sheet → List ℕ
packed_of sheets = join_with_byte 93 (map packed_member sheets) ++ codes "\n"

-- What is written, what is refused, and what is read back (docs/TEAM_TEXT.md, "Writing").

-- whether a move has a number of PP ups other than three
abbrev pub has_other_ups : Sheet → Bool
has_other_ups s = list_any (λ chosen. not (chosen.1 == 3)) s.moves

-- the first member with such a move, counted from this place
abbrev pub other_ups_from : ℕ → List Sheet → Option ℕ
other_ups_from place [] = None
other_ups_from place (s ∷ sheets) = if has_other_ups s then Some place else other_ups_from (place + 1) sheets

-- why members have no text: they are not a team, or a move has a number of PP ups other than three
abbrev pub write_refusal : List Sheet → Option WriteFault
write_refusal sheets = option_or (option_map Team (team_refusal sheets)) (option_map PpUps (other_ups_from 1 sheets))

-- the experience that is read: the square of the EV
abbrev pub exp_read : ℕ → Sheet → ℕ
exp_read k s = ev_at k s * ev_at k s

-- a member as it is read back after it was written: only the experience differs
abbrev pub as_read : Sheet → Sheet
as_read s = record s {
  dvs = dv 0 s ∷ dv 1 s ∷ dv 2 s ∷ dv 3 s ∷ [];
  exp = exp_read 0 s ∷ exp_read 1 s ∷ exp_read 2 s ∷ exp_read 3 s ∷ exp_read 4 s ∷ [];
}

-- The texts of the refusals of a writer (docs/TEAM_TEXT.md, "Writing").

abbrev pub write_words : WriteFault → List ℕ
write_words (Team refusal) = sentence_of refusal
write_words (PpUps member) = codes "member " ++ decimal member ++ codes ": expected three PP ups for each move, since a text has none"
