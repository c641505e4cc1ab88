-- A team that is written is read as the same team.
use Rattle.std.proofs.Common.{All, Bool, Err, List, None, Ok, Option, Result, Some, [], ap, append-nil, arith, drop, false, if◌then◌else◌, length, map, min, nat_lt, refl, sym, true, ℕ, ◌*◌, ◌++◌, ◌+◌, ◌/◌, ◌∙◌, ◌∷◌, ◌≡◌, ◌≤◌, ◌==◌, ◌||◌}
use Rattle.std.specs.Prelude.{slice_index}
use Rattle.std.specs.List.{list_any}
use Rattle.std.specs.Option.{option_or}
use Rattle.std.proofs.lemmas.Bool.Decides.{nat_tests}
use Rattle.std.proofs.lemmas.List.Elements.{All-head, All-tail}
use Rattle.std.proofs.lemmas.List.{length-map}
use Rattle.std.proofs.lemmas.Nat.{mul-le}
use Rattle.gen1_stats.proofs.Roots.{root-is, root_unique}
use Rattle.gen1_stats.specs.Members.{Member}
use Rattle.gen1_stats.specs.Teams.{Sheet, dv, first_failed, first_refusal, member_of, member_refusal, team_of, team_refusal, tests}
use Rattle.gen1_stats.specs.Stats.{root}
use Rattle.gen1_stats.specs.declared.team.TeamRefusal.{TeamRefusal}
use Rattle.gen1_stats.specs.declared.team.TeamRefusal.TheVariants.{Dv, Empty, Level, TooMany}
use Rattle.gen1_text.specs.MemberLines.{behind, pieces_of, trimmed}
use Rattle.gen1_text.specs.Texts.{members_told, team_made, team_told, told}
use Rattle.gen1_text.specs.declared.fault.TextFault.{TextFault}
use Rattle.gen1_text.specs.declared.fault.TextFault.TheVariants.{Team}
use Rattle.gen1_writer.specs.Export.{block, ended, lines_of, text_of, HasDvs, ev, as_read}
use Rattle.gen1_writer.proofs.Members.{dvs_pass, neither, none_refused, IsWritable, block_is, member_lines, told_member}
use Rattle.gen1_writer.proofs.Parts.{lines_back, pieces_join}

-- the lines of all members

nothing_left : pieces_of 10 [] ≡ [] ∷ []
unfolding pieces_of trimmed
nothing_left = refl

one_block : (s : Sheet) → IsWritable s → pieces_of 10 (block s) ≡ lines_of s ++ [] ∷ []
one_block s h =
    ap (pieces_of 10) (block_is s ∙ sym (append-nil (ended (lines_of s))))
    ∙ lines_back (lines_of s) [] (member_lines s h) ∙ ap (λ (l : List (List ℕ)). lines_of s ++ l) nothing_left

next_block : (s : Sheet) (rest : List ℕ) → IsWritable s → pieces_of 10 (block s ++ 10 ∷ rest) ≡ lines_of s ++ [] ∷ pieces_of 10 rest
next_block s rest h =
    ap (λ (l : List ℕ). pieces_of 10 (l ++ 10 ∷ rest)) (block_is s)
    ∙ lines_back (lines_of s) (10 ∷ rest) (member_lines s h)
    ∙ ap (λ (l : List (List ℕ)). lines_of s ++ l) (pieces_join 10 [] rest refl ∙ ap (λ (l : List (List ℕ)). l ++ pieces_of 10 rest) nothing_left)

end_of : (members n : ℕ) → told members n None [] ≡ Ok []
unfolding told
end_of members n = refl

pub all_told : (members n : ℕ) (s : Sheet) (sheets : List Sheet) → All IsWritable (s ∷ sheets) → members + length (s ∷ sheets) ≤ 6
    → told members n None (pieces_of 10 (text_of (s ∷ sheets))) ≡ Ok (map as_read (s ∷ sheets))
all_told members n s [] h few =
    let is = All-head IsWritable s [] h in
    ap (told members n None) (one_block s is)
    ∙ told_member members n s [] is (omega (arith, few))
    ∙ ap (behind (as_read s ∷ [])) (end_of _ _)
all_told members n s (t ∷ sheets) h few =
    let is = All-head IsWritable s (t ∷ sheets) h in
    ap (told members n None) (next_block s (text_of (t ∷ sheets)) is)
    ∙ told_member members n s (pieces_of 10 (text_of (t ∷ sheets))) is (omega (arith, few))
    ∙ ap (behind (as_read s ∷ [])) (all_told (members + 1) _ t sheets (All-tail IsWritable s (t ∷ sheets) h) (omega (arith, few)))

pub text_back : (sheets : List Sheet) → All IsWritable sheets → 1 ≤ length sheets → length sheets ≤ 6
    → members_told (text_of sheets) ≡ Ok (map as_read sheets)
unfolding members_told
text_back [] h some few = absurd (omega (arith, some))
text_back (s ∷ sheets) h some few = all_told 0 0 s sheets h (omega (arith, few))

-- the stats are the same

root_low : (v k : ℕ) → v * v ≤ k * k → v ≤ k
root_low v k h = grind (arith, mul-le)

root_square : (v : ℕ) → v ≤ 252 → root (v * v) ≡ v
root_square v h = root_unique (v * v) (root (v * v)) v (root-is (v * v)) (record {
  capped = omega (arith, h);
  reaches = λ below. omega arith;
  least = λ k enough. root_low v k enough;
})

points_read : (exp : ℕ) → root (ev exp * ev exp) / 4 ≡ root exp / 4
points_read exp =
    let capped : root exp ≤ 255 = (root-is exp).capped in
    ap (λ n. n / 4) (root_square (ev exp) (omega arith)) ∙ fourth (root exp) capped
  where
    fourth : (r : ℕ) → r ≤ 255 → min 252 r / 4 ≡ r / 4
    fourth r h = omega (arith, h)

member_read : (s : Sheet) → member_of (as_read s) ≡ member_of s
member_read s =
    rw (
      points_read (slice_index s.exp 0),
      points_read (slice_index s.exp 1),
      points_read (slice_index s.exp 2),
      points_read (slice_index s.exp 3),
      points_read (slice_index s.exp 4),
    ) refl

pub team_read : (sheets : List Sheet) → team_of (map as_read sheets) ≡ team_of sheets
team_read [] = refl
team_read (s ∷ sheets) = λ i. member_read s i ∷ team_read sheets i

-- and so is the test of a team

low_false : (n : ℕ) → n ≤ 15 → nat_lt 15 n ≡ false
low_false n h = grind (arith, nat_tests)

refusal_read : (place : ℕ) (s : Sheet) → HasDvs s → member_refusal place s ≡ None → member_refusal place (as_read s) ≡ None
refusal_read place s has none =
    let new : list_any (λ dv. nat_lt 15 dv) (as_read s).dvs ≡ false =
    (λ i. low_false (dv 0 s) (has 0) i || (low_false (dv 1 s) (has 1) i || (low_false (dv 2 s) (has 2) i || (low_false (dv 3 s) (has 3) i || false)))) in
    ap (λ (b : Bool). first_failed ((s.level == 0 || nat_lt 100 s.level, Level place) ∷ (b, Dv place) ∷ drop 2 (tests place s))) (new ∙ sym (dvs_pass place s none))
    ∙ none

first_read : (place : ℕ) (sheets : List Sheet) → All HasDvs sheets → first_refusal place sheets ≡ None → first_refusal place (map as_read sheets) ≡ None
first_read place [] has none = refl
first_read place (s ∷ sheets) has none =
    let both = neither (member_refusal place s) (first_refusal (place + 1) sheets) none in
    (λ i. option_or (refusal_read place s (All-head HasDvs s sheets has) both.0 i)
    (first_read (place + 1) sheets (All-tail HasDvs s sheets has) both.1 i))

pub team_allowed : (sheets : List Sheet) → All HasDvs sheets → 1 ≤ length sheets → length sheets ≤ 6 → team_refusal sheets ≡ None
    → team_refusal (map as_read sheets) ≡ None
team_allowed sheets has some few none =
    by (length (map as_read sheets) == 0) (nat_lt 6 (length (map as_read sheets))) refl refl
  where
    long : length (map as_read sheets) ≡ length sheets
    long = length-map sheets as_read

    by : (a b : Bool) → (length (map as_read sheets) == 0) ≡ a → nat_lt 6 (length (map as_read sheets)) ≡ b
        → (if a then Some Empty else (if b then Some TooMany else first_refusal 1 (map as_read sheets))) ≡ None
    by true b e f = absurd (grind (arith, nat_tests, long, some, e))
    by false true e f = absurd (grind (arith, nat_tests, long, few, f))
    by false false e f = first_read 1 sheets has (none_refused sheets none)

pub team_back : (sheets : List Sheet) → All IsWritable sheets → All HasDvs sheets → 1 ≤ length sheets → length sheets ≤ 6 → team_refusal sheets ≡ None
    → team_told (text_of sheets) ≡ Ok (team_of sheets)
team_back sheets h has some few none =
    ap team_made (text_back sheets h some few)
    ∙ ap (λ (o : Option TeamRefusal). elim o as (λ _. Result (List Member) TextFault) [ None ↦ Ok (team_of (map as_read sheets)) | Some refusal ↦ Err (Team refusal) ])
    (team_allowed sheets has some few none)
    ∙ ap (λ (l : List Member). Ok l) (team_read sheets)
