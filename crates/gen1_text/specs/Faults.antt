-- The texts of the errors of team text (docs/TEAM_TEXT.md, "Faults").
use Rattle.std.specs.Prelude.{List, codes, ℕ, ◌++◌}
use Rattle.std.specs.Fmt.{decimal}
use Rattle.gen1_stats.specs.Refusals.{sentence_of}
use Rattle.gen1_text.specs.declared.fault.MemberFault.{MemberFault}
use Rattle.gen1_text.specs.declared.fault.MemberFault.TheVariants as member_faults
use Rattle.gen1_text.specs.declared.fault.PackedFault.{PackedFault}
use Rattle.gen1_text.specs.declared.fault.PackedFault.TheVariants as packed_faults
use Rattle.gen1_text.specs.declared.fault.TextFault.{TextFault}
use Rattle.gen1_text.specs.declared.fault.TextFault.TheVariants as text_faults

-- What is expected of a line or a field.
abbrev pub member_words : MemberFault → List ℕ
member_words member_faults.Species = codes "expected the name of a species of the first generation"
member_words member_faults.Item = codes "expected no item: the first generation has none"
member_words member_faults.SeventhMember = codes "expected at most six members"
member_words member_faults.Level = codes "expected a level from 1 to 100"
member_words member_faults.Evs = codes "expected EVs from 0 to 255, as `252 HP / 4 Atk`, or packed as `252,4,,,,`"
member_words member_faults.SpecialEvs = codes "expected the same EVs for SpA and SpD: the first generation has one Special"
member_words member_faults.Ivs = codes "expected IVs from 0 to 31, as `14 HP / 0 Atk`, or packed as `14,0,,,,`"
member_words member_faults.SpecialIvs = codes "expected the same IVs for SpA and SpD: the first generation has one Special"
member_words member_faults.HpIv = codes "expected the HP IV that follows from the others, or none"
member_words member_faults.Move = codes "expected the name of a move of the first generation"
member_words member_faults.FifthMove = codes "expected at most four moves"
member_words member_faults.UnknownLine = codes "expected a line of a member, as `Level: 50`, `EVs: 252 HP`, `IVs: 0 Atk` or `- Body Slam`"

-- A line's error with the line's number.
abbrev pub text_words : TextFault → List ℕ
text_words (text_faults.Line line fault) = codes "line " ++ decimal line ++ codes ": " ++ member_words fault
text_words (text_faults.Team refusal) = sentence_of refusal

-- A field's error with the numbers of its member and field.
abbrev pub packed_words : PackedFault → List ℕ
packed_words (packed_faults.Fields member) = codes "member " ++ decimal member ++ codes ": expected twelve fields with `|` between them"
packed_words (packed_faults.Field member field fault) =
    codes "member " ++ decimal member ++ codes ", field " ++ decimal field ++ codes ": " ++ member_words fault
packed_words packed_faults.SeventhMember = codes "expected at most six members"
packed_words (packed_faults.Team refusal) = sentence_of refusal
