-- The lines of a member are read as the member.
use Rattle.std.proofs.Common.{All, Bool, Err, List, None, Ok, Result, Some, [], ap, append-nil, append_assoc, arith, drop, false, if◌then◌else◌, length, length-append, map, nat_le, nat_lt, refl, replicate, subst, sym, true, ℕ, ◌*◌, ◌++◌, ◌+◌, ◌<◌, ◌∙◌, ◌∷◌, ◌≡◌, ◌≤◌, ◌==◌, ◌&&◌, ◌||◌, nat_eq, Option, not, suc, zero}
use Rattle.std.specs.Prelude.{codes, decimal, slice_index, IfNone, option_map}
use Rattle.std.specs.List.{list_all, starts_with, list_any}
use Rattle.std.proofs.lemmas.Bool.Decides.{nat_tests}
use Rattle.std.proofs.lemmas.Bool.{eqb-true, ltb-false, ltb-true, or_parts}
use Rattle.std.proofs.lemmas.List.Elements.{All-head, All-tail}
use Rattle.gen1_stats.specs.Teams.{Sheet, dv, known_of, member_of, team_of, team_refusal, first_failed, first_refusal, member_refusal, tests}
use Rattle.gen1_tables.specs.Names.{move_name, species_name}
use Rattle.gen1_text.specs.MemberLines.{changed, fresh, headed, behind, result_then, pieces_of, dvs_of_ivs, nothing_said}
use Rattle.gen1_text.specs.Texts.{at_line, parts_members, told}
use Rattle.gen1_text.specs.declared.fault.MemberFault.{MemberFault}
use Rattle.gen1_text.specs.declared.fault.MemberFault.TheVariants.{SeventhMember}
use Rattle.gen1_text.specs.declared.fault.TextFault.TheVariants.{Line}
use Rattle.gen1_writer.specs.Export.{block, ended, ev_line, ev_lines, iv_lines, iv_parts, level_lines, lines_of, move_line, HasDvs, ev, ev_at, evs_of, ivs_of, as_read, has_other_ups, other_ups_from, write_refusal}
use Rattle.gen1_writer.proofs.Parts.{AreLines, ended-append}
use Rattle.gen1_writer.proofs.Spread.{evs_read, head_begins, head_line, head_read, ivs_read, level_line_is, level_read, move_line_is, move_read, IvsRead, evs_back, ivs_back}
use Rattle.std.specs.Option.{option_or}
use Rattle.std.proofs.lemmas.List.{length-map}
use Rattle.gen1_stats.specs.declared.member.KnownMove.{KnownMove}
use Rattle.gen1_stats.specs.declared.team.TeamRefusal.{TeamRefusal}
use Rattle.gen1_stats.specs.Members.{IsBetween, IsFresh, IsTeam}
use Rattle.gen1_writer.specs.declared.written.WriteFault.{WriteFault}
use Rattle.gen1_writer.specs.declared.written.WriteFault.TheVariants.{PpUps, Team}
use Rattle.gen1_stats.specs.declared.team.TeamRefusal.TheVariants.{Dv, Empty, Level, TooMany}

-- a line that makes one member of another
pub record Step (line : List ℕ) (s t : Sheet) : Type 0 where
  pub inside : parts_members line ≡ false
  pub is : pieces_of 10 line ≡ line ∷ []
  pub does : changed line s ≡ Ok t

abbrev pub Steps : List (List ℕ) → Sheet → Sheet → Type 0
Steps [] s t = s ≡ t
Steps (line ∷ lines) s u = (t : Sheet) × (Step line s t × Steps lines t u)

pub steps-append : (a b : List (List ℕ)) (s t u : Sheet) → Steps a s t → Steps b t u → Steps (a ++ b) s u
steps-append [] b s t u e more = subst (λ (x : Sheet). Steps b x u) (sym e) more
steps-append (line ∷ a) b s t u h more = (h.0, (h.1.0, steps-append a b h.0 t u h.1.1 more))

are_lines : (lines : List (List ℕ)) (s t : Sheet) → Steps lines s t → AreLines lines
are_lines [] s t h = tt
are_lines (line ∷ lines) s t h = (h.1.0.is, are_lines lines h.0 t h.1.1)

abbrev number_after : ℕ → List (List ℕ) → ℕ
number_after n [] = n
number_after n (line ∷ lines) = number_after (n + 1) lines

one_more : (members n : ℕ) (line : List ℕ) (rest : List (List ℕ)) (s t : Sheet) → Step line s t
    → told members n (Some s) (line ∷ rest) ≡ told members (n + 1) (Some t) rest
unfolding told
one_more members n line rest s t h =
    ap (λ (b : Bool). if b then behind (s ∷ []) (told (members + 1) (n + 1) None rest)
    else result_then (λ sheet. told members (n + 1) (Some sheet) rest) (at_line (n + 1) (changed line s))) h.inside
    ∙ ap (λ (r : Result Sheet MemberFault). result_then (λ sheet. told members (n + 1) (Some sheet) rest) (at_line (n + 1) r)) h.does

told_steps : (members n : ℕ) (lines rest : List (List ℕ)) (s t : Sheet) → Steps lines s t
    → told members n (Some s) (lines ++ rest) ≡ told members (number_after n lines) (Some t) rest
told_steps members n [] rest s t e = ap (λ (x : Sheet). told members n (Some x) rest) e
told_steps members n (line ∷ lines) rest s u h =
    one_more members n line (lines ++ rest) s h.0 h.1.0 ∙ told_steps members (n + 1) lines rest h.0 u h.1.1

-- a member that has a text

pub record IsMove (chosen : ℕ × ℕ) : Type 0 where
  pub low : 1 ≤ chosen.0
  pub high : chosen.0 ≤ 165
  pub ups : chosen.1 ≡ 3

pub record IsWritable (s : Sheet) : Type 0 where
  pub species_low : 1 ≤ s.species
  pub species_high : s.species ≤ 151
  pub level_low : 1 ≤ s.level
  pub level_high : s.level ≤ 100
  pub dvs : HasDvs s
  pub moves : All IsMove s.moves
  pub few : length s.moves ≤ 4

-- each kind of line

not_empty : (n : ℕ) → 1 ≤ n → (n == 0) ≡ false
not_empty n h = grind (arith, nat_tests)

-- a text that does not begin like a title
inside : (text : List ℕ) → 1 ≤ length text → starts_with nat_eq text (codes "===") ≡ false → parts_members text ≡ false
unfolding parts_members
inside text some other = (λ i. not_empty (length text) some i || other i)

level_inside : (text : List ℕ) → parts_members (codes "Level: " ++ text) ≡ false
level_inside text = inside (codes "Level: " ++ text) (omega arith) refl

evs_inside : (text : List ℕ) → parts_members (codes "EVs:" ++ text) ≡ false
evs_inside text = inside (codes "EVs:" ++ text) (omega arith) refl

ivs_inside : (text : List ℕ) → parts_members (codes "IVs:" ++ text) ≡ false
ivs_inside text = inside (codes "IVs:" ++ text) (omega arith) refl

move_inside : (text : List ℕ) → parts_members (codes "- " ++ text) ≡ false
move_inside text = inside (codes "- " ++ text) (omega arith) refl

none_told : dvs_of_ivs nothing_said ≡ Ok (replicate 4 15)
unfolding dvs_of_ivs
none_told = refl

level_steps : (level : ℕ) (s : Sheet) → 1 ≤ level → level ≤ 100 → s.level ≡ 100 → Steps (level_lines level) s (record s { level = level })
level_steps level s low high is = by (level == 100) refl
  where
    by : (b : Bool) → (level == 100) ≡ b → Steps (if b then [] else (codes "Level: " ++ decimal level) ∷ []) s (record s { level = level })
    by true e = ap (λ n. record s { level = n }) (is ∙ sym (eqb-true level 100 e))
    by false e = (
      record s { level = level },
      (
        record {
          inside = level_inside (decimal level);
          is = level_line_is level (omega arith);
          does = level_read level s low high;
        },
        refl,
      ),
    )

ev_low : (exp : ℕ) → ev exp < 253
ev_low exp = omega arith

squares : (evs : List ℕ) → list_all (λ ev. ev == 252) evs ≡ true → map (λ ev. ev * ev) evs ≡ replicate (length evs) 63504
squares [] h = refl
squares (ev ∷ evs) h = by (ev == 252) refl h (squares evs)
  where
    by : (b : Bool) → (ev == 252) ≡ b → (b && list_all (λ ev. ev == 252) evs) ≡ true
        → (list_all (λ ev. ev == 252) evs ≡ true → map (λ ev. ev * ev) evs ≡ replicate (length evs) 63504)
        → ev * ev ∷ map (λ ev. ev * ev) evs ≡ 63504 ∷ replicate (length evs) 63504
    by true e h rest = let is = eqb-true ev 252 e in (λ i. is i * is i ∷ rest h i)
    by false e h rest = cc

abbrev in_order : List ℕ → List ℕ
in_order x = slice_index x 0 ∷ slice_index x 1 ∷ slice_index x 2 ∷ slice_index x 5 ∷ slice_index x 3 ∷ []

ev_steps : (a b c d e : ℕ) (s : Sheet) → a < 253 → b < 253 → c < 253 → d < 253 → e < 253 → s.exp ≡ replicate 5 63504
    → Steps (ev_lines (a ∷ b ∷ c ∷ d ∷ d ∷ e ∷ [])) s (record s { exp = a * a ∷ b * b ∷ c * c ∷ e * e ∷ d * d ∷ [] })
ev_steps a b c d e s la lb lc ld le is =
    by (list_all (λ ev. ev == 252) (a ∷ b ∷ c ∷ d ∷ d ∷ e ∷ [])) refl
  where
    by : (t : Bool) → list_all (λ ev. ev == 252) (a ∷ b ∷ c ∷ d ∷ d ∷ e ∷ []) ≡ t
        → Steps (if t then [] else ev_line (a ∷ b ∷ c ∷ d ∷ d ∷ e ∷ []) ∷ []) s (record s { exp = a * a ∷ b * b ∷ c * c ∷ e * e ∷ d * d ∷ [] })
    by true h = ap (λ (l : List ℕ). record s { exp = l }) (is ∙ sym (ap in_order (squares (a ∷ b ∷ c ∷ d ∷ d ∷ e ∷ []) h)))
    by false h =
        let back = evs_back a b c d e la lb lc ld le in (
          record s { exp = a * a ∷ b * b ∷ c * c ∷ e * e ∷ d * d ∷ [] },
          (
            record {
              inside = ap parts_members back.is ∙ evs_inside back.text;
              is = back.line_is;
              does = ap (λ (l : List ℕ). changed l s) back.is ∙ evs_read back.text s _ back.read;
            },
            refl,
          ),
        )

ok_same : (r : Result (List ℕ) MemberFault) (x y : List ℕ) → r ≡ Ok x → r ≡ Ok y → x ≡ y
ok_same r x y h k = cc

iv_steps : (a b c d : ℕ) (s : Sheet) (ivs : List ℕ) → IvsRead ivs (a ∷ b ∷ d ∷ c ∷ []) → s.dvs ≡ replicate 4 15
    → Steps (iv_lines ivs) s (record s { dvs = a ∷ b ∷ d ∷ c ∷ [] })
iv_steps a b c d s ivs back is = by (nat_lt (length (iv_parts ivs)) 2) refl
  where
    none : dvs_of_ivs nothing_said ≡ Ok (a ∷ b ∷ d ∷ c ∷ []) → replicate 4 15 ≡ a ∷ b ∷ d ∷ c ∷ []
    none h = ok_same (dvs_of_ivs nothing_said) (replicate 4 15) (a ∷ b ∷ d ∷ c ∷ []) none_told h

    by : (t : Bool) → nat_lt (length (iv_parts ivs)) 2 ≡ t
        → Steps (if t then [] else (codes "IVs:" ++ drop 2 (iv_parts ivs)) ∷ []) s (record s { dvs = a ∷ b ∷ d ∷ c ∷ [] })
    by true h = ap (λ (l : List ℕ). record s { dvs = l }) (is ∙ none (back.none (ltb-true _ _ h)))
    by false h =
        let some = ltb-false _ _ h in (
          record s { dvs = a ∷ b ∷ d ∷ c ∷ [] },
          (
            record {
              inside = ivs_inside (drop 2 (iv_parts ivs));
              is = back.line_is some;
              does = ivs_read (drop 2 (iv_parts ivs)) s _ (back.read some);
            },
            refl,
          ),
        )

move_steps : (moves had : List (ℕ × ℕ)) (s : Sheet) → All IsMove moves → length had + length moves ≤ 4
    → Steps (map move_line moves) (record s { moves = had }) (record s { moves = had ++ moves })
move_steps [] had s are few = ap (λ (l : List (ℕ × ℕ)). record s { moves = l }) (sym (append-nil had))
move_steps (chosen ∷ moves) had s are few =
    let is = All-head IsMove chosen moves are in
    let now : record s { moves = had ++ (chosen.0, 3) ∷ [] } ≡ record s { moves = had ++ chosen ∷ [] } =
    ap (λ ups. record s { moves = had ++ (chosen.0, ups) ∷ [] }) (sym is.ups) in
    let long : length (had ++ chosen ∷ []) ≡ length had + 1 = length-append had (chosen ∷ []) in (
      record s { moves = had ++ chosen ∷ [] },
      (
        record {
          inside = move_inside (move_name chosen.0);
          is = move_line_is chosen.0 is.low is.high;
          does = move_read chosen.0 (record s { moves = had }) is.low is.high (omega (arith, few)) ∙ ap (λ (x : Sheet). Ok x) now;
        },
        subst (λ (l : List (ℕ × ℕ)). Steps (map move_line moves) (record s { moves = had ++ chosen ∷ [] }) (record s { moves = l }))
            (append_assoc had (chosen ∷ []) moves)
            (move_steps moves (had ++ chosen ∷ []) s (All-tail IsMove chosen moves are) (omega (arith, long, few))),
      ),
    )

-- all lines after the first
pub member_steps : (s : Sheet) → IsWritable s
    → Steps (level_lines s.level ++ ev_lines (evs_of s) ++ iv_lines (ivs_of s) ++ map move_line s.moves) (fresh s.species) (as_read s)
member_steps s h =
    let first = fresh s.species in
    let second = record first { level = s.level } in
    let third = record second { exp = (as_read s).exp } in
    let fourth = record third { dvs = (as_read s).dvs } in
    let low : (k : ℕ) → dv k s < 16 = λ k. let most = h.dvs k in omega (arith, most) in
    steps-append (level_lines s.level ++ ev_lines (evs_of s) ++ iv_lines (ivs_of s)) (map move_line s.moves) first fourth (as_read s)
    (steps-append (level_lines s.level ++ ev_lines (evs_of s)) (iv_lines (ivs_of s)) first third fourth
    (steps-append (level_lines s.level) (ev_lines (evs_of s)) first second third
    (level_steps s.level first h.level_low h.level_high refl)
    (ev_steps (ev_at 0 s) (ev_at 1 s) (ev_at 2 s) (ev_at 4 s) (ev_at 3 s) second (ev_low _) (ev_low _) (ev_low _) (ev_low _) (ev_low _) refl))
    (iv_steps (dv 0 s) (dv 1 s) (dv 3 s) (dv 2 s) third (ivs_of s) (ivs_back (dv 0 s) (dv 1 s) (dv 3 s) (dv 2 s) (low 0) (low 1) (low 3) (low 2)) refl))
    (move_steps s.moves [] fourth h.moves (let few = h.few in omega (arith, few)))

too_few : (members : ℕ) → members < 6 → nat_le 6 members ≡ false
too_few members h = grind (arith, nat_tests)

first_line : (members n : ℕ) (line : List ℕ) (lines : List (List ℕ)) (s : Sheet) → parts_members line ≡ false → members < 6 → headed line ≡ Ok s
    → told members n None (line ∷ lines) ≡ told members (n + 1) (Some s) lines
unfolding told
first_line members n line lines s begins few read =
    ap (λ (b : Bool). if b then told members (n + 1) None lines
    else if nat_le 6 members then Err (Line (n + 1) SeventhMember)
    else result_then (λ sheet. told members (n + 1) (Some sheet) lines) (at_line (n + 1) (headed line))) begins
    ∙ ap (λ (b : Bool). if b then Err (Line (n + 1) SeventhMember)
    else result_then (λ sheet. told members (n + 1) (Some sheet) lines) (at_line (n + 1) (headed line))) (too_few members few)
    ∙ ap (λ (r : Result Sheet MemberFault). result_then (λ sheet. told members (n + 1) (Some sheet) lines) (at_line (n + 1) r)) read

empty_line : (members n : ℕ) (s : Sheet) (rest : List (List ℕ)) → told members n (Some s) ([] ∷ rest) ≡ behind (s ∷ []) (told (members + 1) (n + 1) None rest)
unfolding told parts_members
empty_line members n s rest = refl

-- a whole member, before the empty line that ends it
pub told_member : (members n : ℕ) (s : Sheet) (rest : List (List ℕ)) → IsWritable s → members < 6
    → told members n None (lines_of s ++ [] ∷ rest)
    ≡ behind (as_read s ∷ []) (told (members + 1) (number_after (n + 1) (drop 1 (lines_of s)) + 1) None rest)
told_member members n s rest h few =
    first_line members n (species_name s.species) (drop 1 (lines_of s) ++ [] ∷ rest) (fresh s.species) (head_begins s.species h.species_low h.species_high) few
    (head_read s.species h.species_low h.species_high)
    ∙ told_steps members (n + 1) (drop 1 (lines_of s)) ([] ∷ rest) (fresh s.species) (as_read s) (member_steps s h)
    ∙ empty_line members (number_after (n + 1) (drop 1 (lines_of s))) (as_read s) rest

-- the lines of its block
pub block_is : (s : Sheet) → block s ≡ ended (lines_of s)
block_is s =
    let name = species_name s.species ∷ [] in
    let level = level_lines s.level in
    let evs = ev_lines (evs_of s) in
    let ivs = iv_lines (ivs_of s) in
    let moves = map move_line s.moves in
    sym (ended-append (name ++ level ++ evs ++ ivs) moves
    ∙ ap (λ (l : List ℕ). l ++ ended moves) (ended-append (name ++ level ++ evs) ivs
    ∙ ap (λ (l : List ℕ). l ++ ended ivs) (ended-append (name ++ level) evs
    ∙ ap (λ (l : List ℕ). l ++ ended evs) (ended-append name level))))

pub member_lines : (s : Sheet) → IsWritable s → AreLines (lines_of s)
member_lines s h = (head_line s.species h.species_low h.species_high, are_lines (drop 1 (lines_of s)) (fresh s.species) (as_read s) (member_steps s h))

-- Members that have a text are as the reader's lemmas need them.

low_at : (xs : List ℕ) (k : ℕ) → list_any (λ n. nat_lt 15 n) xs ≡ false → slice_index xs k ≤ 15
low_at [] k h = omega arith
low_at (x ∷ xs) zero h = ltb-false 15 x (or_parts (nat_lt 15 x) (list_any (λ n. nat_lt 15 n) xs) h).0
low_at (x ∷ xs) (suc k) h = low_at xs k (or_parts (nat_lt 15 x) (list_any (λ n. nat_lt 15 n) xs) h).1

-- the second of several tests has not failed
pub second : (a b : Bool) (x y : TeamRefusal) (more : List (Bool × TeamRefusal)) → first_failed ((a, x) ∷ (b, y) ∷ more) ≡ None → b ≡ false
second true b x y more h = cc
second false true x y more h = cc
second false false x y more h = refl

pub dvs_pass : (place : ℕ) (s : Sheet) → member_refusal place s ≡ None → list_any (λ dv. nat_lt 15 dv) s.dvs ≡ false
dvs_pass place s none =
    second (s.level == 0 || nat_lt 100 s.level) (list_any (λ dv. nat_lt 15 dv) s.dvs) (Level place) (Dv place) (drop 2 (tests place s)) none

pub neither : {X : Type 0} (a b : Option X) → option_or a b ≡ None → (a ≡ None) × (b ≡ None)
neither None b h = (refl, h)
neither (Some x) b h = cc

all_dvs : (place : ℕ) (sheets : List Sheet) → first_refusal place sheets ≡ None → All HasDvs sheets
all_dvs place [] none k d low = absurd (omega arith)
all_dvs place (s ∷ sheets) none zero d low =
    λ i. low_at s.dvs i (dvs_pass place s (neither (member_refusal place s) (first_refusal (place + 1) sheets) none).0)
all_dvs place (s ∷ sheets) none (suc k) d low =
    all_dvs (place + 1) sheets (neither (member_refusal place s) (first_refusal (place + 1) sheets) none).1 k d (omega arith)

pub none_refused : (sheets : List Sheet) → team_refusal sheets ≡ None → first_refusal 1 sheets ≡ None
none_refused sheets h = by (length sheets == 0) (nat_lt 6 (length sheets)) h
  where
    by : (a b : Bool) → (if a then Some Empty else (if b then Some TooMany else first_refusal 1 sheets)) ≡ None → first_refusal 1 sheets ≡ None
    by true b h = cc
    by false true h = cc
    by false false h = h

pub has_dvs : (sheets : List Sheet) → team_refusal sheets ≡ None → All HasDvs sheets
has_dvs sheets h = all_dvs 1 sheets (none_refused sheets h)

three_ups : (b : Bool) → not b ≡ false → b ≡ true
three_ups true h = refl
three_ups false h = cc

writable_moves : (moves : List (ℕ × ℕ)) → All (λ (k : KnownMove). IsBetween 1 165 k.id) (map known_of moves)
    → list_any (λ chosen. not (chosen.1 == 3)) moves ≡ false → All IsMove moves
writable_moves [] known ups k d low = absurd (omega arith)
writable_moves (chosen ∷ moves) known ups zero d low =
    let id = All-head (λ (k : KnownMove). IsBetween 1 165 k.id) (known_of chosen) (map known_of moves) known in
    record {
      low = id.0;
      high = id.1;
      ups = eqb-true chosen.1 3 (three_ups (chosen.1 == 3) (or_parts (not (chosen.1 == 3)) (list_any (λ chosen. not (chosen.1 == 3)) moves) ups).0);
    }
writable_moves (chosen ∷ moves) known ups (suc k) d low =
    writable_moves moves (All-tail (λ (k : KnownMove). IsBetween 1 165 k.id) (known_of chosen) (map known_of moves) known)
    (or_parts (not (chosen.1 == 3)) (list_any (λ chosen. not (chosen.1 == 3)) moves) ups).1 k d (omega arith)

writable : (s : Sheet) → IsFresh (member_of s) → HasDvs s → has_other_ups s ≡ false → IsWritable s
writable s is dvs ups =
    let long : length (map known_of s.moves) ≡ length s.moves = length-map s.moves known_of in
    record {
      species_low = is.species.0;
      species_high = is.species.1;
      level_low = is.member.level.0;
      level_high = is.member.level.1;
      dvs = dvs;
      moves = writable_moves s.moves is.moves ups;
      few = let few = is.member.slots.1 in omega (arith, long, few);
    }

no_ups : (place : ℕ) (s : Sheet) (sheets : List Sheet) → other_ups_from place (s ∷ sheets) ≡ None
    → (has_other_ups s ≡ false) × (other_ups_from (place + 1) sheets ≡ None)
no_ups place s sheets h = by (has_other_ups s) refl h
  where
    by : (b : Bool) → has_other_ups s ≡ b → (if b then Some place else other_ups_from (place + 1) sheets) ≡ None
        → (has_other_ups s ≡ false) × (other_ups_from (place + 1) sheets ≡ None)
    by true e h = cc
    by false e h = (e, h)

all_writable : (place : ℕ) (sheets : List Sheet) → All IsFresh (team_of sheets) → All HasDvs sheets → other_ups_from place sheets ≡ None → All IsWritable sheets
all_writable place [] team dvs ups k d low = absurd (omega arith)
all_writable place (s ∷ sheets) team dvs ups zero d low =
    writable s (All-head IsFresh (member_of s) (team_of sheets) team) (All-head HasDvs s sheets dvs) (no_ups place s sheets ups).0
all_writable place (s ∷ sheets) team dvs ups (suc k) d low =
    all_writable (place + 1) sheets (All-tail IsFresh (member_of s) (team_of sheets) team) (All-tail HasDvs s sheets dvs) (no_ups place s sheets ups).1 k d (omega arith)

-- nothing is refused

pub parts_of_none : (a : Option TeamRefusal) (b : Option ℕ) → option_or (option_map Team a) (option_map PpUps b) ≡ None → (a ≡ None) × (b ≡ None)
parts_of_none None None h = (refl, refl)
parts_of_none None (Some place) h = cc
parts_of_none (Some refusal) b h = cc

pub record Writes (sheets : List Sheet) : Type 0 where
  pub each : All IsWritable sheets
  pub some : 1 ≤ length sheets
  pub few : length sheets ≤ 6
  pub allowed : team_refusal sheets ≡ None

pub writes : (sheets : List Sheet) → IsTeam (team_of sheets) → All HasDvs sheets → write_refusal sheets ≡ None → Writes sheets
writes sheets is dvs none =
    let parts = parts_of_none (team_refusal sheets) (other_ups_from 1 sheets) none in
    let long : length (team_of sheets) ≡ length sheets = length-map sheets member_of in
    record {
      each = all_writable 1 sheets is.members dvs parts.1;
      some = let some = is.size.0 in omega (arith, long, some);
      few = let few = is.size.1 in omega (arith, long, few);
      allowed = parts.0;
    }

-- where a refusal is missing

pub none_of : (o : Option WriteFault) → ((fault : WriteFault) → o ≡ Some fault → ⊥) → o ≡ None
none_of None h = refl
none_of (Some fault) h = absurd (h fault refl)

pub of_none : (o : Option WriteFault) (P : Type 0) → o ≡ None → IfNone o P → P
of_none None P e p = p
of_none (Some fault) P e p = cc
