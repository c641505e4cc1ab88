-- What a text says: its lines, the members that they describe, and the team of these (docs/TEAM_TEXT.md, "Export text", "Faults").
use Rattle.std.specs.Prelude.{Bool, Err, List, None, Ok, Option, Result, Some, [], codes, if◌then◌else◌, length, nat_eq, nat_le, ℕ, ◌+◌, ◌==◌, ◌||◌, ◌∷◌}
use Rattle.std.specs.List.{starts_with}
use Rattle.gen1_stats.specs.Members.{Member}
use Rattle.gen1_stats.specs.Teams.{Sheet, team_of, team_refusal}
use Rattle.gen1_text.specs.MemberLines.{changed, headed, behind, result_then, pieces_of}
use Rattle.gen1_text.specs.declared.fault.MemberFault.{MemberFault}
use Rattle.gen1_text.specs.declared.fault.MemberFault.TheVariants.{SeventhMember}
use Rattle.gen1_text.specs.declared.fault.TextFault.{TextFault}
use Rattle.gen1_text.specs.declared.fault.TextFault.TheVariants.{Line, Team}

-- the lines of a text, without the white space around each
abbrev pub lines_of : List ℕ → List (List ℕ)
lines_of text = pieces_of 10 text

-- whether a line separates members: it is empty, or the title of a team
unfoldable pub parts_members : List ℕ → Bool
parts_members line = length line == 0 || starts_with nat_eq line (codes "===")

-- a member, or the error of its line
abbrev pub at_line : ℕ → Result Sheet MemberFault → Result Sheet TextFault
at_line number (Ok sheet) = Ok sheet
at_line number (Err fault) = Err (Line number fault)

-- the members that lines describe, after this many members and lines; `Some` is the member whose lines these are
unfoldable pub told : ℕ → ℕ → Option Sheet → List (List ℕ) → Result (List Sheet) TextFault
told members number None [] = Ok []
told members number (Some sheet) [] = Ok (sheet ∷ [])
told members number None (line ∷ lines) =
    if parts_members line then told members (number + 1) None lines
    else if nat_le 6 members then Err (Line (number + 1) SeventhMember)
    else result_then (λ sheet. told members (number + 1) (Some sheet) lines) (at_line (number + 1) (headed line))
told members number (Some sheet) (line ∷ lines) =
    if parts_members line then behind (sheet ∷ []) (told (members + 1) (number + 1) None lines)
    else result_then (λ sheet. told members (number + 1) (Some sheet) lines) (at_line (number + 1) (changed line sheet))

-- the members of a text
unfoldable pub members_told : List ℕ → Result (List Sheet) TextFault
members_told text = told 0 0 None (lines_of text)

-- the team of these members, or why they are not one
abbrev pub team_made : Result (List Sheet) TextFault → Result (List Member) TextFault
team_made (Err fault) = Err fault
team_made (Ok sheets) = elim (team_refusal sheets) [ None ↦ Ok (team_of sheets) | Some refusal ↦ Err (Team refusal) ]

-- the team of a text
abbrev pub team_told : List ℕ → Result (List Member) TextFault
team_told text = team_made (members_told text)
