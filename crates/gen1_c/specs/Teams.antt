-- The team that a plain struct describes, and why it is not one (include/gen1.h, "beginning").
use Rattle.std.specs.Prelude.{List, None, Option, Some, [], if◌then◌else◌, map, nat_le, nat_lt, slice_index, take, ℕ, ◌&&◌, ◌*◌, ◌++◌, ◌+◌, ◌==◌, ◌∷◌, Err, Ok, Result, length, replicate, slice_index_or, ◌≡◌}
use Rattle.std.specs.List.{list_any}
use Rattle.gen1_stats.specs.Refusals.{number_of, place_of, number_of as rule_of}
use Rattle.gen1_stats.specs.Teams.{Sheet, team_refusal}
use Rattle.gen1_stats.specs.declared.team.TeamRefusal.{TeamRefusal}
use Rattle.gen1_stats.specs.declared.team.TeamRefusal.TheVariants.{TooMany}
use Rattle.gen1_c.specs.declared.teams.MemberForm.{MemberForm}
use Rattle.gen1_c.specs.declared.teams.TeamForm.{TeamForm}
use Rattle.gen1_text.specs.declared.fault.MemberFault.{MemberFault}
use Rattle.gen1_text.specs.declared.fault.PackedFault.{PackedFault}
use Rattle.gen1_text.specs.declared.fault.TextFault.{TextFault}
use Rattle.gen1_writer.specs.Export.{write_refusal}
use Rattle.gen1_writer.specs.declared.written.WriteFault.{WriteFault}
use Rattle.gen1_c.specs.declared.team_text.TextFaultForm.{TextFaultForm}
use Rattle.gen1_random.specs.Teams.{draft, sample_team, size_refusal}
use Rattle.gen1_random.specs.declared.teams.DrawnFrom.{DrawnFrom}
use Rattle.gen1_random.specs.declared.teams.DrawnFrom.TheVariants.{All, Samples}
use Rattle.gen1_text.specs.declared.fault.MemberFault.TheVariants as expects
use Rattle.gen1_text.specs.declared.fault.PackedFault.TheVariants as packed
use Rattle.gen1_text.specs.declared.fault.TextFault.TheVariants as texts
use Rattle.gen1_writer.specs.declared.written.WriteFault.TheVariants as writing

-- what is described

-- a move with its PP ups, if the number is a move
abbrev pub chosen : ℕ → ℕ → List (ℕ × ℕ)
chosen id ups = if nat_le 1 id && nat_le id 165 then (id, ups) ∷ [] else []

abbrev pub chosen_at : ℕ → MemberForm → List (ℕ × ℕ)
chosen_at k m = chosen (slice_index m.moves k) (slice_index m.pp_ups k)

abbrev pub species_of : ℕ → ℕ
species_of number = if nat_le 1 number && nat_le number 151 then number else 1

abbrev pub sheet_of : MemberForm → Sheet
sheet_of m = record {
  species = species_of m.species;
  level = m.level;
  dvs = m.dvs;
  exp = m.exp;
  moves = ((chosen_at 0 m ++ chosen_at 1 m) ++ chosen_at 2 m) ++ chosen_at 3 m;
}

-- the members that count
abbrev pub given : TeamForm → List MemberForm
given t = take t.count t.members

abbrev pub sheets_of : TeamForm → List Sheet
sheets_of t = map sheet_of (given t)

-- the error: its code, plus 256 times the place of the member; 0 if there is none

-- numbers that are not a species, or not a move
abbrev pub member_fault : MemberForm → ℕ
member_fault m =
    if nat_le 1 m.species && nat_le m.species 151
    then (if list_any (λ id. nat_lt 165 id) m.moves then 11 else 0)
    else 10

abbrev pub first_fault : ℕ → List MemberForm → ℕ
first_fault place [] = 0
first_fault place (m ∷ members) = if member_fault m == 0 then first_fault (place + 1) members else 256 * place + member_fault m

-- the rules of teams
abbrev pub fault_of : TeamRefusal → ℕ
fault_of refusal = 256 * place_of refusal + number_of refusal

abbrev pub fault_of_any : Option TeamRefusal → ℕ
fault_of_any None = 0
fault_of_any (Some refusal) = fault_of refusal

-- the count, and the numbers of the members that count
abbrev pub number_fault : TeamForm → ℕ
number_fault t = if nat_lt 6 t.count then fault_of TooMany else first_fault 1 (given t)

unfoldable pub team_fault : TeamForm → ℕ
team_fault t = if number_fault t == 0 then fault_of_any (team_refusal (sheets_of t)) else number_fault t

-- Teams read from text into plain structs, where a text is wrong, and teams written as text (include/gen1.h, "teams as text"; docs/TEAM_TEXT.md).

-- errors

abbrev pub expected : ℕ → TextFaultForm
expected code = record { line = 0; member = 0; field = 0; code = code; rule = 0; reserved = replicate 6 0 }

abbrev pub code_of : MemberFault → ℕ
code_of expects.Species = 64
code_of expects.Item = 65
code_of expects.SeventhMember = 66
code_of expects.Level = 67
code_of expects.Evs = 68
code_of expects.SpecialEvs = 69
code_of expects.Ivs = 70
code_of expects.SpecialIvs = 71
code_of expects.HpIv = 72
code_of expects.Move = 73
code_of expects.FifthMove = 74
code_of expects.UnknownLine = 75

abbrev pub of_team : TeamRefusal → TextFaultForm
of_team refusal = record (expected 77) { member = place_of refusal; rule = rule_of refusal }

abbrev pub of_text : TextFault → TextFaultForm
of_text (texts.Line line fault) = record (expected (code_of fault)) { line = line }
of_text (texts.Team refusal) = of_team refusal

abbrev pub of_packed : PackedFault → TextFaultForm
of_packed (packed.Fields member) = record (expected 76) { member = member }
of_packed (packed.Field member field fault) = record (expected (code_of fault)) { member = member; field = field }
of_packed packed.SeventhMember = expected 66
of_packed (packed.Team refusal) = of_team refusal

-- the struct, with zeros after the last move and after the last member

abbrev pub move_at : List (ℕ × ℕ) → ℕ → ℕ × ℕ
move_at moves k = slice_index_or moves k (0, 0)

abbrev pub no_member : MemberForm
no_member = record { species = 0; level = 0; dvs = replicate 4 0; moves = replicate 4 0; pp_ups = replicate 4 0; exp = replicate 5 0 }

abbrev pub member_of : Sheet → MemberForm
member_of s = record {
  species = s.species;
  level = s.level;
  dvs = s.dvs;
  moves = (move_at s.moves 0).0 ∷ (move_at s.moves 1).0 ∷ (move_at s.moves 2).0 ∷ (move_at s.moves 3).0 ∷ [];
  pp_ups = (move_at s.moves 0).1 ∷ (move_at s.moves 1).1 ∷ (move_at s.moves 2).1 ∷ (move_at s.moves 3).1 ∷ [];
  exp = s.exp;
}

abbrev pub member_at : List Sheet → ℕ → MemberForm
member_at sheets k = slice_index_or (map member_of sheets) k no_member

abbrev pub form_of : List Sheet → TeamForm
form_of sheets = record {
  members = member_at sheets 0 ∷ member_at sheets 1 ∷ member_at sheets 2 ∷ member_at sheets 3 ∷ member_at sheets 4 ∷ member_at sheets 5 ∷ [];
  count = length sheets;
  reserved = 0;
}

-- the members that the text describes, if they are a team, or the first error

abbrev pub team_due : List Sheet → Result (List Sheet) TextFaultForm
team_due sheets = elim (team_refusal sheets) [ None ↦ Ok sheets | Some refusal ↦ Err (of_team refusal) ]

abbrev pub text_due : Result (List Sheet) TextFault → Result (List Sheet) TextFaultForm
text_due (Ok sheets) = team_due sheets
text_due (Err fault) = Err (of_text fault)

abbrev pub packed_due : Result (List Sheet) PackedFault → Result (List Sheet) TextFaultForm
packed_due (Ok sheets) = team_due sheets
packed_due (Err fault) = Err (of_packed fault)

-- the caller's memory: the team and the error
pub record Lent : Type 0 where
  pub team : TeamForm
  pub fault : TextFaultForm

-- the team is written, and the error is as it was; or the error is written, and the team is as it was
abbrev pub TellsTeam : Result (List Sheet) TextFaultForm → Lent → Lent → ℕ → Type 0
TellsTeam (Ok sheets) old new code = (code ≡ 0) × (new ≡ record { team = form_of sheets; fault = old.fault })
TellsTeam (Err why) old new code = (code ≡ why.code) × (new ≡ record { team = old.team; fault = why })

-- the text of a team, or its code, plus 256 times the place of the member

abbrev pub of_write : WriteFault → ℕ
of_write (writing.Team refusal) = fault_of refusal
of_write (writing.PpUps place) = 256 * place + 78

abbrev pub write_due : List ℕ → Option WriteFault → Result (List ℕ) ℕ
write_due text None = Ok text
write_due text (Some fault) = Err (of_write fault)

abbrev pub written_due : (List Sheet → List ℕ) → TeamForm → Result (List ℕ) ℕ
written_due write t =
    if number_fault t == 0 then write_due (write (sheets_of t)) (write_refusal (sheets_of t)) else Err (number_fault t)

-- Random teams, and the sample teams (include/gen1.h, "random teams"; docs/MECHANICS.md, "Random teams").

abbrev pub source : ℕ → DrawnFrom
source from_all = if from_all == 0 then Samples else All

-- members, or the number of a refusal
abbrev pub unless_refused : List Sheet → Option TeamRefusal → Result (List Sheet) ℕ
unless_refused sheets None = Ok sheets
unless_refused sheets (Some refusal) = Err (number_of refusal)

-- the members that are drawn, or why there are none
abbrev pub random_due : ℕ → ℕ → ℕ → Result (List Sheet) ℕ
random_due seed count from_all = unless_refused (draft (source from_all) seed count).team (size_refusal count)

abbrev pub sample_due : ℕ → Result (List Sheet) ℕ
sample_due number = if nat_le 1 number && nat_le number 12 then Ok (sample_team number) else Err 42

-- the members are written, or the code says why there are none, and the team is as it was
abbrev pub GivesTeam : Result (List Sheet) ℕ → TeamForm → TeamForm → ℕ → Type 0
GivesTeam (Ok sheets) old new code = (code ≡ 0) × (new ≡ form_of sheets)
GivesTeam (Err why) old new code = (code ≡ why) × (new ≡ old)
