-- The lines of a member and of its EVs and IVs, read back.
use Rattle.std.proofs.Common.{Bool, Err, List, None, Ok, Option, Result, Some, [], ap, append-nil, append_assoc, arith, drop, false, if◌then◌else◌, length, not, refl, subst, sym, true, ℕ, ◌*◌, ◌++◌, ◌/◌, ◌<◌, ◌∙◌, ◌∷◌, ◌≡◌, ◌≤◌, ◌==◌, nat_le}
use Rattle.std.specs.Prelude.{codes, unwrap_or, decimal}
use Rattle.std.specs.Option.{ok_or}
use Rattle.std.proofs.lemmas.Bool.Decides.{nat_tests}
use Rattle.gen1_stats.specs.Stats.{hp_dv}
use Rattle.gen1_text.specs.MemberLines.{result_then, pieces_of, has_inside, number_of, text_after, trimmed, Spread, dvs_of_ivs, exp_of_evs, nothing_said, with_parts, changed, fresh, headed, named, species_text, with_evs, with_ivs, with_level, with_move, without_gender}
use Rattle.gen1_text.specs.declared.fault.MemberFault.{MemberFault}
use Rattle.gen1_text.specs.declared.fault.MemberFault.TheVariants.{Evs, HpIv, Ivs, SpecialEvs, SpecialIvs, FifthMove, Item, Level, Move, Species}
use Rattle.gen1_text.proofs.TextLemmas.{parts_end, move_by_letters, move_own, species_own}
use Rattle.gen1_writer.specs.Export.{ev_line, iv_part, iv_parts, part, iv}
use Rattle.gen1_writer.proofs.Parts.{each, IsPart, Lists, ev_atk, ev_def, ev_hp, ev_spa, ev_spd, ev_spe, goes_end, goes_on, iv_atk, iv_def, iv_hp, iv_listed, iv_spa, iv_spd, iv_spe, lists_end, lists_iv, said, says, says_iv, ends-append, lacks, lacks-append, one_piece, three, three_is}
use Rattle.gen1_stats.specs.Teams.{Sheet}
use Rattle.gen1_tables.specs.Names.{move_name, move_names, name_at, species_name, species_names}
use Rattle.gen1_text.specs.Ids.{move_called}
use Rattle.gen1_text.specs.Texts.{parts_members}

pub same : (n : ℕ) → (n == n) ≡ true
same n = grind (arith, nat_tests)

-- a slash and a part, before the rest
inner : (x s p r : List ℕ) → x ++ s ++ p ++ r ≡ x ++ (s ++ (p ++ r))
inner x s p r = append_assoc (x ++ s) p r ∙ append_assoc x s (p ++ r)

-- six EVs, one part after the other

abbrev slash : List ℕ
slash = codes " / "

-- the parts after the first
abbrev rest_of : List ℕ → List ℕ → List ℕ → List ℕ → List ℕ → List ℕ
rest_of p1 p2 p3 p4 p5 = slash ++ (p1 ++ (slash ++ (p2 ++ (slash ++ (p3 ++ (slash ++ (p4 ++ (slash ++ (p5 ++ [])))))))))

nested : (k p0 p1 p2 p3 p4 p5 : List ℕ)
    → k ++ p0 ++ slash ++ p1 ++ slash ++ p2 ++ slash ++ p3 ++ slash ++ p4 ++ slash ++ p5 ≡ k ++ (p0 ++ rest_of p1 p2 p3 p4 p5)
nested k p0 p1 p2 p3 p4 p5 =
    let x0 = k ++ p0 in
    let x1 = x0 ++ slash ++ p1 in
    let x2 = x1 ++ slash ++ p2 in
    let x3 = x2 ++ slash ++ p3 in
    let x4 = x3 ++ slash ++ p4 in
    let r5 = slash ++ (p5 ++ []) in
    let r4 = slash ++ (p4 ++ r5) in
    let r3 = slash ++ (p3 ++ r4) in
    let r2 = slash ++ (p2 ++ r3) in
    sym (append-nil (x4 ++ slash ++ p5)) ∙ inner x4 slash p5 [] ∙ inner x3 slash p4 r5 ∙ inner x2 slash p3 r4 ∙ inner x1 slash p2 r3 ∙ inner x0 slash p1 r2
    ∙ append_assoc k p0 (slash ++ (p1 ++ r2))

all_parts : (p0 p1 p2 p3 p4 p5 : List ℕ) → IsPart p0 → IsPart p1 → IsPart p2 → IsPart p3 → IsPart p4 → IsPart p5
    → pieces_of 47 (32 ∷ (p0 ++ rest_of p1 p2 p3 p4 p5)) ≡ p0 ∷ p1 ∷ p2 ∷ p3 ∷ p4 ∷ p5 ∷ []
all_parts p0 p1 p2 p3 p4 p5 h0 h1 h2 h3 h4 h5 =
    goes_on p1 _ _ h1 (goes_on p2 _ _ h2 (goes_on p3 _ _ h3 (goes_on p4 _ _ h4 (goes_on p5 [] [] h5 goes_end)))) p0 h0

pub evs_told : (a b c d e : ℕ) → a < 253 → b < 253 → c < 253 → d < 253 → e < 253
    → with_parts 255 nothing_said
    (part a (codes "HP") ∷ part b (codes "Atk") ∷ part c (codes "Def") ∷ part d (codes "SpA") ∷ part d (codes "SpD") ∷ part e (codes "Spe") ∷ [])
    ≡ Some (Some a ∷ Some b ∷ Some c ∷ Some d ∷ Some d ∷ Some e ∷ [])
evs_told a b c d e la lb lc ld le =
    says 255 nothing_said (Some a ∷ None ∷ None ∷ None ∷ None ∷ None ∷ []) _ _ 0 a (ev_hp a la).says refl
    ∙ says 255 (Some a ∷ None ∷ None ∷ None ∷ None ∷ None ∷ []) (Some a ∷ Some b ∷ None ∷ None ∷ None ∷ None ∷ []) _ _ 1 b (ev_atk b lb).says refl
    ∙ says 255 (Some a ∷ Some b ∷ None ∷ None ∷ None ∷ None ∷ []) (Some a ∷ Some b ∷ Some c ∷ None ∷ None ∷ None ∷ []) _ _ 2 c (ev_def c lc).says refl
    ∙ says 255 (Some a ∷ Some b ∷ Some c ∷ None ∷ None ∷ None ∷ []) (Some a ∷ Some b ∷ Some c ∷ Some d ∷ None ∷ None ∷ []) _ _ 3 d (ev_spa d ld).says refl
    ∙ says 255 (Some a ∷ Some b ∷ Some c ∷ Some d ∷ None ∷ None ∷ []) (Some a ∷ Some b ∷ Some c ∷ Some d ∷ Some d ∷ None ∷ []) _ _ 4 d (ev_spd d ld).says refl
    ∙ says 255 (Some a ∷ Some b ∷ Some c ∷ Some d ∷ Some d ∷ None ∷ []) (Some a ∷ Some b ∷ Some c ∷ Some d ∷ Some d ∷ Some e ∷ []) _ [] 5 e (ev_spe e le).says refl
    ∙ parts_end 255 (Some a ∷ Some b ∷ Some c ∷ Some d ∷ Some d ∷ Some e ∷ []) [] refl

pub exp_told : (a b c d e : ℕ) → exp_of_evs (Some a ∷ Some b ∷ Some c ∷ Some d ∷ Some d ∷ Some e ∷ []) ≡ Ok (a * a ∷ b * b ∷ c * c ∷ e * e ∷ d * d ∷ [])
unfolding exp_of_evs
exp_told a b c d e = ap (λ (t : Bool). if t then Ok (a * a ∷ b * b ∷ c * c ∷ e * e ∷ d * d ∷ []) else Err SpecialEvs) (same d)

pub record EvsRead (line : List ℕ) (exp : List ℕ) : Type 0 where
  pub text : List ℕ
  pub is : line ≡ codes "EVs:" ++ text
  pub read : result_then exp_of_evs (ok_or (with_parts 255 nothing_said (pieces_of 47 text)) Evs) ≡ Ok exp
  pub line_is : pieces_of 10 line ≡ line ∷ []

pub evs_back : (a b c d e : ℕ) → a < 253 → b < 253 → c < 253 → d < 253 → e < 253
    → EvsRead (ev_line (a ∷ b ∷ c ∷ d ∷ d ∷ e ∷ [])) (a * a ∷ b * b ∷ c * c ∷ e * e ∷ d * d ∷ [])
evs_back a b c d e la lb lc ld le =
    let p0 = part a (codes "HP") in
    let p1 = part b (codes "Atk") in
    let p2 = part c (codes "Def") in
    let p3 = part d (codes "SpA") in
    let p4 = part d (codes "SpD") in
    let p5 = part e (codes "Spe") in
    let h0 = (ev_hp a la).is in
    let h1 = (ev_atk b lb).is in
    let h2 = (ev_def c lc).is in
    let h3 = (ev_spa d ld).is in
    let h4 = (ev_spd d ld).is in
    let h5 = (ev_spe e le).is in
    let key = codes "EVs: " in
    let x0 = key ++ p0 in
    let x1 = x0 ++ slash ++ p1 in
    let x2 = x1 ++ slash ++ p2 in
    let x3 = x2 ++ slash ++ p3 in
    let x4 = x3 ++ slash ++ p4 in
    let l0 = lacks-append 10 key p0 refl h0.no_feed in
    let l1 = clean x0 p1 l0 h1.no_feed in
    let l2 = clean x1 p2 l1 h2.no_feed in
    let l3 = clean x2 p3 l2 h3.no_feed in
    let l4 = clean x3 p4 l3 h4.no_feed in
    record {
      text = 32 ∷ (p0 ++ rest_of p1 p2 p3 p4 p5);
      is = nested key p0 p1 p2 p3 p4 p5;
      read = ap (λ (l : List (List ℕ)). result_then exp_of_evs (ok_or (with_parts 255 nothing_said l) Evs)) (all_parts p0 p1 p2 p3 p4 p5 h0 h1 h2 h3 h4 h5)
          ∙ ap (λ (o : Option Spread). result_then exp_of_evs (ok_or o Evs)) (evs_told a b c d e la lb lc ld le)
          ∙ exp_told a b c d e;
      line_is = one_piece 10 (x4 ++ slash ++ p5) (clean x4 p5 l4 h5.no_feed) refl (ends-append (x4 ++ slash) p5 h5.stops);
    }
  where
    clean : (x p : List ℕ) → lacks 10 x ≡ true → lacks 10 p ≡ true → lacks 10 (x ++ slash ++ p) ≡ true
    clean x p h k = lacks-append 10 (x ++ slash) p (lacks-append 10 x slash h refl) k

-- the IVs of four DVs, and of that of HP

abbrev five : ℕ → ℕ → ℕ → ℕ → ℕ → List ℕ
five h a b c d = iv h ∷ iv a ∷ iv b ∷ iv c ∷ iv c ∷ iv d ∷ []

abbrev listed : ℕ → ℕ → ℕ → ℕ → ℕ → List (List ℕ)
listed h a b c d =
    iv_listed (iv h) (codes "HP") ++ (iv_listed (iv a) (codes "Atk") ++ (iv_listed (iv b) (codes "Def") ++ (iv_listed (iv c) (codes "SpA")
    ++ (iv_listed (iv c) (codes "SpD") ++ (iv_listed (iv d) (codes "Spe") ++ [])))))

iv_low : (n : ℕ) → n < 16 → iv n < 32
iv_low n h = by (n == 15)
  where
    by : (t : Bool) → (if t then 31 else 2 * n) < 32
    by true = omega arith
    by false = omega (arith, h)

pub ivs_told : (h a b c d : ℕ) → h < 16 → a < 16 → b < 16 → c < 16 → d < 16
    → with_parts 31 nothing_said (listed h a b c d) ≡ Some (said (iv h) ∷ said (iv a) ∷ said (iv b) ∷ said (iv c) ∷ said (iv c) ∷ said (iv d) ∷ [])
ivs_told h a b c d lh la lb lc ld =
    says_iv (iv h) (codes "HP") _ 0 [] (None ∷ None ∷ None ∷ None ∷ None ∷ []) (iv_hp (iv h) (iv_low h lh)).says refl
    ∙ says_iv (iv a) (codes "Atk") _ 1 (said (iv h) ∷ []) (None ∷ None ∷ None ∷ None ∷ []) (iv_atk (iv a) (iv_low a la)).says refl
    ∙ says_iv (iv b) (codes "Def") _ 2 (said (iv h) ∷ said (iv a) ∷ []) (None ∷ None ∷ None ∷ []) (iv_def (iv b) (iv_low b lb)).says refl
    ∙ says_iv (iv c) (codes "SpA") _ 3 (said (iv h) ∷ said (iv a) ∷ said (iv b) ∷ []) (None ∷ None ∷ []) (iv_spa (iv c) (iv_low c lc)).says refl
    ∙ says_iv (iv c) (codes "SpD") _ 4 (said (iv h) ∷ said (iv a) ∷ said (iv b) ∷ said (iv c) ∷ []) (None ∷ []) (iv_spd (iv c) (iv_low c lc)).says refl
    ∙ says_iv (iv d) (codes "Spe") [] 5 (said (iv h) ∷ said (iv a) ∷ said (iv b) ∷ said (iv c) ∷ said (iv c) ∷ []) [] (iv_spe (iv d) (iv_low d ld)).says refl
    ∙ parts_end 31 (said (iv h) ∷ said (iv a) ∷ said (iv b) ∷ said (iv c) ∷ said (iv c) ∷ said (iv d) ∷ []) [] refl

-- what is tested of six IVs
abbrev judged : Option ℕ → ℕ → ℕ → ℕ → ℕ → ℕ → Result (List ℕ) MemberFault
judged o a b d c e =
    if not (e == c) then Err SpecialIvs
    else if not (unwrap_or o (2 * hp_dv a b d c) / 2 == hp_dv a b d c) then Err HpIv else Ok (a ∷ b ∷ d ∷ c ∷ [])

half : (n : ℕ) → n < 16 → unwrap_or (said (iv n)) 31 / 2 ≡ n
half n h = each (λ n. unwrap_or (said (iv n)) 31 / 2) (λ n. n) 0 16 refl n (omega arith) (omega (arith, h))

half_again : (n : ℕ) → n < 16 → unwrap_or (said (iv n)) (unwrap_or (said (iv n)) 31) / 2 ≡ n
half_again n h = each (λ n. unwrap_or (said (iv n)) (unwrap_or (said (iv n)) 31) / 2) (λ n. n) 0 16 refl n (omega arith) (omega (arith, h))

half_own : (n : ℕ) → n < 16 → unwrap_or (said (iv n)) (2 * n) / 2 ≡ n
half_own n h = each (λ n. unwrap_or (said (iv n)) (2 * n) / 2) (λ n. n) 0 16 refl n (omega arith) (omega (arith, h))

pub hp_low : (a b d c : ℕ) → hp_dv a b d c < 16
hp_low a b d c = omega arith

pub dvs_told : (a b c d : ℕ) → a < 16 → b < 16 → c < 16 → d < 16
    → dvs_of_ivs (said (iv (hp_dv a b d c)) ∷ said (iv a) ∷ said (iv b) ∷ said (iv c) ∷ said (iv c) ∷ said (iv d) ∷ []) ≡ Ok (a ∷ b ∷ d ∷ c ∷ [])
unfolding dvs_of_ivs
dvs_told a b c d la lb lc ld =
    let hp = hp_dv a b d c in
    (λ i. judged (said (iv hp)) (half a la i) (half b lb i) (half d ld i) (half c lc i) (half_again c lc i))
    ∙ ap (λ (t : Bool). if not t then Err SpecialIvs
    else if not (unwrap_or (said (iv hp)) (2 * hp) / 2 == hp) then Err HpIv else Ok (a ∷ b ∷ d ∷ c ∷ [])) (same c)
    ∙ ap (λ n. if not (n == hp) then Err HpIv else Ok (a ∷ b ∷ d ∷ c ∷ [])) (half_own hp (hp_low a b d c))
    ∙ ap (λ (t : Bool). if not t then Err HpIv else Ok (a ∷ b ∷ d ∷ c ∷ [])) (same hp)

-- the parts of the IVs, from the first on

lists_all : (h a b c d : ℕ) → h < 16 → a < 16 → b < 16 → c < 16 → d < 16 → Lists (iv_parts (five h a b c d)) (listed h a b c d)
lists_all h a b c d lh la lb lc ld =
    let q0 = iv_part (iv h) (codes "HP") in
    let q1 = iv_part (iv a) (codes "Atk") in
    let q2 = iv_part (iv b) (codes "Def") in
    let q3 = iv_part (iv c) (codes "SpA") in
    let q4 = iv_part (iv c) (codes "SpD") in
    let q5 = iv_part (iv d) (codes "Spe") in
    let right : q0 ++ q1 ++ q2 ++ q3 ++ q4 ++ q5 ≡ q0 ++ (q1 ++ (q2 ++ (q3 ++ (q4 ++ (q5 ++ []))))) =
    sym (append-nil (q0 ++ q1 ++ q2 ++ q3 ++ q4 ++ q5))
    ∙ append_assoc (q0 ++ q1 ++ q2 ++ q3 ++ q4) q5 []
    ∙ append_assoc (q0 ++ q1 ++ q2 ++ q3) q4 (q5 ++ [])
    ∙ append_assoc (q0 ++ q1 ++ q2) q3 (q4 ++ (q5 ++ []))
    ∙ append_assoc (q0 ++ q1) q2 (q3 ++ (q4 ++ (q5 ++ [])))
    ∙ append_assoc q0 q1 (q2 ++ (q3 ++ (q4 ++ (q5 ++ [])))) in
    subst (λ (text : List ℕ). Lists text (listed h a b c d)) (sym right)
    (lists_iv (iv h) (codes "HP") _ _ (iv_hp (iv h) (iv_low h lh)).is
    (lists_iv (iv a) (codes "Atk") _ _ (iv_atk (iv a) (iv_low a la)).is
    (lists_iv (iv b) (codes "Def") _ _ (iv_def (iv b) (iv_low b lb)).is
    (lists_iv (iv c) (codes "SpA") _ _ (iv_spa (iv c) (iv_low c lc)).is
    (lists_iv (iv c) (codes "SpD") _ _ (iv_spd (iv c) (iv_low c lc)).is
    (lists_iv (iv d) (codes "Spe") [] [] (iv_spe (iv d) (iv_low d ld)).is lists_end))))))

pub record IvsRead (ivs dvs : List ℕ) : Type 0 where
  pub read : 2 ≤ length (iv_parts ivs)
      → result_then dvs_of_ivs (ok_or (with_parts 31 nothing_said (pieces_of 47 (drop 2 (iv_parts ivs)))) Ivs) ≡ Ok dvs
  pub line_is : 2 ≤ length (iv_parts ivs)
      → pieces_of 10 (codes "IVs:" ++ drop 2 (iv_parts ivs)) ≡ (codes "IVs:" ++ drop 2 (iv_parts ivs)) ∷ []
  pub none : length (iv_parts ivs) < 2 → dvs_of_ivs nothing_said ≡ Ok dvs

pub ivs_back : (a b c d : ℕ) → a < 16 → b < 16 → c < 16 → d < 16 → IvsRead (five (hp_dv a b d c) a b c d) (a ∷ b ∷ d ∷ c ∷ [])
ivs_back a b c d la lb lc ld =
    let hp = hp_dv a b d c in
    let all = lists_all hp a b c d (hp_low a b d c) la lb lc ld in
    let told = ivs_told hp a b c d (hp_low a b d c) la lb lc ld in
    record {
      read = λ h.
          ap (λ (l : List (List ℕ)). result_then dvs_of_ivs (ok_or (with_parts 31 nothing_said l) Ivs)) (all.own h)
          ∙ ap (λ (o : Option Spread). result_then dvs_of_ivs (ok_or o Ivs)) told
          ∙ dvs_told a b c d la lb lc ld;
      line_is = λ h.
          one_piece 10 (codes "IVs:" ++ drop 2 (iv_parts (five hp a b c d))) (lacks-append 10 (codes "IVs:") (drop 2 (iv_parts (five hp a b c d))) refl (all.line h).0) refl
          (ends-append (codes "IVs:") (drop 2 (iv_parts (five hp a b c d))) (all.line h).1);
      none = λ h.
          let alike : Some nothing_said ≡ Some (said (iv hp) ∷ said (iv a) ∷ said (iv b) ∷ said (iv c) ∷ said (iv c) ∷ said (iv d) ∷ []) =
          sym (parts_end 31 nothing_said [] refl) ∙ ap (λ (l : List (List ℕ)). with_parts 31 nothing_said l) (sym (all.none h)) ∙ told in
          ap (λ (o : Option Spread). result_then dvs_of_ivs (ok_or o Ivs)) alike ∙ dvs_told a b c d la lb lc ld;
    }

-- What the lines of a member do when they are read.

-- a first line, which is a species

head_alone : (n : ℕ) → 1 ≤ n → n ≤ 151 → has_inside (codes " @ ") (species_name n) ≡ false
unfolding species_name species_names name_at
head_alone n low high = each (λ n. has_inside (codes " @ ") (species_name n)) (λ n. false) 1 151 refl n low (omega arith)

head_text : (n : ℕ) → 1 ≤ n → n ≤ 151 → species_text (without_gender (species_name n)) ≡ species_name n
unfolding species_name species_names name_at species_text without_gender
head_text n low high = each (λ n. species_text (without_gender (species_name n))) species_name 1 151 refl n low (omega arith)

pub head_begins : (n : ℕ) → 1 ≤ n → n ≤ 151 → parts_members (species_name n) ≡ false
unfolding species_name species_names name_at parts_members
head_begins n low high = each (λ n. parts_members (species_name n)) (λ n. false) 1 151 refl n low (omega arith)

pub head_line : (n : ℕ) → 1 ≤ n → n ≤ 151 → pieces_of 10 (species_name n) ≡ species_name n ∷ []
unfolding species_name species_names name_at pieces_of trimmed
head_line n low high = each (λ n. pieces_of 10 (species_name n)) (λ n. species_name n ∷ []) 1 151 refl n low (omega arith)

pub head_read : (n : ℕ) → 1 ≤ n → n ≤ 151 → headed (species_name n) ≡ Ok (fresh n)
unfolding headed named
head_read n low high =
    let name = species_name n in
    ap (λ (b : Bool). if b then Err Item else named (species_text (without_gender name))) (head_alone n low high)
    ∙ ap named (head_text n low high)
    ∙ ap (λ (o : Option ℕ). result_then (λ species. Ok (fresh species)) (ok_or o Species)) (species_own n low high)

-- a level

spelled_line : (n : ℕ) → n < 101 → pieces_of 10 (codes "Level: " ++ three n) ≡ (codes "Level: " ++ three n) ∷ []
unfolding pieces_of trimmed
spelled_line n low = each (λ n. pieces_of 10 (codes "Level: " ++ three n)) (λ n. (codes "Level: " ++ three n) ∷ []) 0 101 refl n (omega arith) (omega (arith, low))

spelled_number : (n : ℕ) → n < 101 → number_of 100 (trimmed (32 ∷ three n)) ≡ Some n
unfolding number_of trimmed
spelled_number n low = each (λ n. number_of 100 (trimmed (32 ∷ three n))) (λ n. Some n) 0 101 refl n (omega arith) (omega (arith, low))

pub level_line_is : (n : ℕ) → n < 101 → pieces_of 10 (codes "Level: " ++ decimal n) ≡ (codes "Level: " ++ decimal n) ∷ []
level_line_is n low =
    subst (λ (digits : List ℕ). pieces_of 10 (codes "Level: " ++ digits) ≡ (codes "Level: " ++ digits) ∷ []) (sym (three_is n (omega arith))) (spelled_line n low)

level_number : (n : ℕ) → n < 101 → number_of 100 (trimmed (32 ∷ decimal n)) ≡ Some n
level_number n low =
    subst (λ (digits : List ℕ). number_of 100 (trimmed (32 ∷ digits)) ≡ Some n) (sym (three_is n (omega arith))) (spelled_number n low)

not_zero : (n : ℕ) → 1 ≤ n → (n == 0) ≡ false
not_zero n h = grind (arith, nat_tests)

pub level_read : (n : ℕ) (s : Sheet) → 1 ≤ n → n ≤ 100 → changed (codes "Level: " ++ decimal n) s ≡ Ok (record s { level = n })
unfolding changed text_after with_level
level_read n s low high =
    ap (λ (o : Option ℕ). result_then (λ level. if level == 0 then Err Level else Ok (record s { level = level })) (ok_or o Level)) (level_number n (omega arith))
    ∙ ap (λ (b : Bool). if b then Err Level else Ok (record s { level = n })) (not_zero n low)

-- a move

pub move_line_is : (n : ℕ) → 1 ≤ n → n ≤ 165 → pieces_of 10 (codes "- " ++ move_name n) ≡ (codes "- " ++ move_name n) ∷ []
unfolding move_name move_names name_at pieces_of trimmed
move_line_is n low high = each (λ n. pieces_of 10 (codes "- " ++ move_name n)) (λ n. (codes "- " ++ move_name n) ∷ []) 1 165 refl n low (omega arith)

move_found : (n : ℕ) → 1 ≤ n → n ≤ 165 → move_called (32 ∷ move_name n) ≡ Some n
move_found n low high = move_by_letters (32 ∷ move_name n) ∙ sym (move_by_letters (move_name n)) ∙ move_own n low high

few : (n : ℕ) → n < 4 → nat_le 4 n ≡ false
few n h = grind (arith, nat_tests)

pub move_read : (n : ℕ) (s : Sheet) → 1 ≤ n → n ≤ 165 → length s.moves < 4
    → changed (codes "- " ++ move_name n) s ≡ Ok (record s { moves = s.moves ++ (n, 3) ∷ [] })
unfolding changed text_after with_move
move_read n s low high room =
    ap (λ (b : Bool). if b then Err FifthMove
    else result_then (λ move. Ok (record s { moves = s.moves ++ (move, 3) ∷ [] })) (ok_or (move_called (32 ∷ move_name n)) Move)) (few (length s.moves) room)
    ∙ ap (λ (o : Option ℕ). result_then (λ move. Ok (record s { moves = s.moves ++ (move, 3) ∷ [] })) (ok_or o Move)) (move_found n low high)

-- EVs and IVs, by what follows the key

pub evs_read : (text : List ℕ) (s : Sheet) (exp : List ℕ)
    → result_then exp_of_evs (ok_or (with_parts 255 nothing_said (pieces_of 47 text)) Evs) ≡ Ok exp
    → changed (codes "EVs:" ++ text) s ≡ Ok (record s { exp = exp })
unfolding changed text_after with_evs
evs_read text s exp h = by (ok_or (with_parts 255 nothing_said (pieces_of 47 text)) Evs) h
  where
    by : (r : Result (List (Option ℕ)) MemberFault) → result_then exp_of_evs r ≡ Ok exp
        → result_then (λ evs. result_then (λ exp. Ok (record s { exp = exp })) (exp_of_evs evs)) r ≡ Ok (record s { exp = exp })
    by (Ok evs) h = ap (λ (r : Result (List ℕ) MemberFault). result_then (λ exp. Ok (record s { exp = exp })) r) h
    by (Err fault) h = cc

pub ivs_read : (text : List ℕ) (s : Sheet) (dvs : List ℕ)
    → result_then dvs_of_ivs (ok_or (with_parts 31 nothing_said (pieces_of 47 text)) Ivs) ≡ Ok dvs
    → changed (codes "IVs:" ++ text) s ≡ Ok (record s { dvs = dvs })
unfolding changed text_after with_ivs
ivs_read text s dvs h = by (ok_or (with_parts 31 nothing_said (pieces_of 47 text)) Ivs) h
  where
    by : (r : Result (List (Option ℕ)) MemberFault) → result_then dvs_of_ivs r ≡ Ok dvs
        → result_then (λ ivs. result_then (λ dvs. Ok (record s { dvs = dvs })) (dvs_of_ivs ivs)) r ≡ Ok (record s { dvs = dvs })
    by (Ok ivs) h = ap (λ (r : Result (List ℕ) MemberFault). result_then (λ dvs. Ok (record s { dvs = dvs })) r) h
    by (Err fault) h = cc
