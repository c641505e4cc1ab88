-- A packed line that is written is read as the same team.
use Rattle.std.proofs.Common.{All, Bool, Err, List, None, Ok, Option, Result, Some, [], ap, append-nil, append_assoc, arith, false, get_or, if◌then◌else◌, length, length-append, map, nat_le, nat_lt, not, refl, replicate, suc, sym, take, true, zero, ℕ, ◌*◌, ◌++◌, ◌+◌, ◌-◌, ◌<◌, ◌∙◌, ◌∷◌, ◌≡◌, ◌≤◌, ◌==◌, ◌&&◌}
use Rattle.std.specs.Prelude.{bytes_eq, codes, decimal, slice_index, slice_index_or}
use Rattle.std.specs.Char.{is_ascii_whitespace}
use Rattle.std.specs.List.{join_with_byte, list_all, range_with_len, suffix_len}
use Rattle.std.specs.Option.{ok_or}
use Rattle.std.proofs.lemmas.Bool.Decides.{nat_tests}
use Rattle.std.proofs.lemmas.Bool.{eqb-true, ltb-true}
use Rattle.std.proofs.lemmas.List.Elements.{All-head, All-tail}
use Rattle.std.proofs.lemmas.List.Sums.{suffix_len_is}
use Rattle.std.proofs.lemmas.Slice.Eq.{bytes_eq-Decides}
use Rattle.gen1_stats.specs.Members.{Member}
use Rattle.gen1_stats.specs.Teams.{Sheet, dv, team_of, team_refusal}
use Rattle.gen1_stats.specs.Stats.{hp_dv}
use Rattle.gen1_stats.specs.declared.team.TeamRefusal.{TeamRefusal}
use Rattle.gen1_tables.specs.Names.{move_name, move_names, name_at, species_name, species_names}
use Rattle.gen1_text.specs.Ids.{id_of, move_called}
use Rattle.gen1_text.specs.MemberLines.{fresh, named, with_level, with_move, behind, result_then, number_of, pieces_of, trimmed, trimmed_end, Spread, dvs_of_ivs, exp_of_evs, nothing_said}
use Rattle.gen1_text.specs.Packed.{all_unpacked, in_field, members_packed, team_packed, team_unpacked, then_field, unpacked, each_number, field, number_if_any, six_numbers, species_field, with_moves, with_packed_evs, with_packed_ivs, with_packed_level, without_item}
use Rattle.gen1_text.specs.declared.fault.MemberFault.{MemberFault}
use Rattle.gen1_text.specs.declared.fault.MemberFault.TheVariants.{FifthMove, Move, Species}
use Rattle.gen1_text.specs.declared.fault.PackedFault.{PackedFault}
use Rattle.gen1_text.specs.declared.fault.PackedFault.TheVariants.{Fields, Team}
use Rattle.gen1_text.proofs.TextLemmas.{move_by_letters, move_own, species_own}
use Rattle.gen1_text.proofs.PackedLemmas.{all-end, all-made, moves_end, moves_go, moves_skip}
use Rattle.gen1_writer.specs.Export.{HasDvs, ev, ev_at, evs_of, iv, ivs_of, iv_place, packed_evs, packed_ivs, packed_level, packed_member, packed_moves, packed_of, six, as_read}
use Rattle.gen1_writer.proofs.Parts.{each, three, three_is, said, pieces_join, begins, ends, ends-append, lacks, lacks-append, last_of, one_piece, start_stays, whole}
use Rattle.gen1_writer.proofs.Members.{IsMove, IsWritable}
use Rattle.gen1_writer.proofs.ReadBack.{team_allowed, team_read}
use Rattle.gen1_writer.proofs.Spread.{dvs_told, exp_told, hp_low}

-- bytes without white space and without this separator

abbrev clean : ℕ → List ℕ → Bool
clean c [] = true
clean c (x ∷ xs) = (not (x == c) && not (is_ascii_whitespace x)) && clean c xs

both : (a b : Bool) → (a && b) ≡ true → (a ≡ true) × (b ≡ true)
both true b h = (refl, h)
both false b h = cc

clean-append : (c : ℕ) (a b : List ℕ) → clean c a ≡ true → clean c b ≡ true → clean c (a ++ b) ≡ true
clean-append c [] b h k = k
clean-append c (x ∷ a) b h k =
    let parts = both (not (x == c) && not (is_ascii_whitespace x)) (clean c a) h in
    (λ i. parts.0 i && clean-append c a b parts.1 k i)

clean-lacks : (c : ℕ) (xs : List ℕ) → clean c xs ≡ true → lacks c xs ≡ true
clean-lacks c [] h = refl
clean-lacks c (x ∷ xs) h =
    let parts = both (not (x == c) && not (is_ascii_whitespace x)) (clean c xs) h in
    (λ i. (both (not (x == c)) (not (is_ascii_whitespace x)) parts.0).0 i && clean-lacks c xs parts.1 i)

clean-ends : (c x : ℕ) (xs : List ℕ) → clean c (x ∷ xs) ≡ true → ends (x ∷ xs) ≡ true
clean-ends c x [] h =
    (both (not (x == c)) (not (is_ascii_whitespace x)) (both (not (x == c) && not (is_ascii_whitespace x)) true h).0).1
clean-ends c x (y ∷ xs) h = clean-ends c y xs (both (not (x == c) && not (is_ascii_whitespace x)) (clean c (y ∷ xs)) h).1

nothing : (c : ℕ) → pieces_of c [] ≡ [] ∷ []
unfolding pieces_of trimmed
nothing c = refl

own_piece : (c : ℕ) (xs : List ℕ) → clean c xs ≡ true → pieces_of c xs ≡ xs ∷ []
own_piece c [] h = nothing c
own_piece c (x ∷ xs) h =
    one_piece c (x ∷ xs) (clean-lacks c (x ∷ xs) h)
    (both (not (x == c)) (not (is_ascii_whitespace x)) (both (not (x == c) && not (is_ascii_whitespace x)) (clean c xs) h).0).1
    (clean-ends c x xs h)

-- a piece, a separator, and the rest
next_piece : (c : ℕ) (xs rest : List ℕ) → (c == c) ≡ true → pieces_of c xs ≡ xs ∷ [] → pieces_of c (xs ++ c ∷ rest) ≡ xs ∷ pieces_of c rest
next_piece c xs rest same h = pieces_join c xs rest same ∙ ap (λ (l : List (List ℕ)). l ++ pieces_of c rest) h

-- the digits of a number

clean_three : (c n : ℕ) → map (λ n. clean c (three n)) (range_with_len 0 256) ≡ map (λ n. true) (range_with_len 0 256) → n < 256 → clean c (three n) ≡ true
clean_three c n all low = each (λ n. clean c (three n)) (λ n. true) 0 256 all n (omega arith) (omega (arith, low))

clean_digits : (c n : ℕ) → map (λ n. clean c (three n)) (range_with_len 0 256) ≡ map (λ n. true) (range_with_len 0 256) → n < 256 → clean c (decimal n) ≡ true
clean_digits c n all low = ap (clean c) (three_is n (omega (arith, low))) ∙ clean_three c n all low

commas : (n : ℕ) → n < 256 → clean 44 (decimal n) ≡ true
commas n low = clean_digits 44 n refl low

bars : (n : ℕ) → n < 256 → clean 124 (decimal n) ≡ true
bars n low = clean_digits 124 n refl low

brackets : (n : ℕ) → n < 256 → clean 93 (decimal n) ≡ true
brackets n low = clean_digits 93 n refl low

-- six places

link : (x p r : List ℕ) → x ++ codes "," ++ p ++ r ≡ x ++ 44 ∷ (p ++ r)
link x p r = append_assoc (x ++ codes ",") p r ∙ append_assoc x (codes ",") (p ++ r)

six_nested : (p0 p1 p2 p3 p4 p5 : List ℕ)
    → p0 ++ codes "," ++ p1 ++ codes "," ++ p2 ++ codes "," ++ p3 ++ codes "," ++ p4 ++ codes "," ++ p5
    ≡ p0 ++ 44 ∷ (p1 ++ 44 ∷ (p2 ++ 44 ∷ (p3 ++ 44 ∷ (p4 ++ 44 ∷ p5))))
six_nested p0 p1 p2 p3 p4 p5 =
    let x1 = p0 ++ codes "," ++ p1 in
    let x2 = x1 ++ codes "," ++ p2 in
    let x3 = x2 ++ codes "," ++ p3 in
    let x4 = x3 ++ codes "," ++ p4 in
    let r5 = 44 ∷ p5 in
    let r4 = 44 ∷ (p4 ++ r5) in
    let r3 = 44 ∷ (p3 ++ r4) in
    let r2 = 44 ∷ (p2 ++ r3) in
    append_assoc x4 (codes ",") p5 ∙ link x3 p4 r5 ∙ link x2 p3 r4 ∙ link x1 p2 r3 ∙ link p0 p1 r2

place : (p rest : List ℕ) (parts : List (List ℕ)) → clean 44 p ≡ true → pieces_of 44 rest ≡ parts → pieces_of 44 (p ++ 44 ∷ rest) ≡ p ∷ parts
place p rest parts h e = next_piece 44 p rest refl (own_piece 44 p h) ∙ ap (λ (l : List (List ℕ)). p ∷ l) e

six_pieces : (f : ℕ → List ℕ) (a b c d e g : ℕ) → clean 44 (f a) ≡ true → clean 44 (f b) ≡ true → clean 44 (f c) ≡ true → clean 44 (f d) ≡ true
    → clean 44 (f e) ≡ true → clean 44 (f g) ≡ true
    → pieces_of 44 (six f (a ∷ b ∷ c ∷ d ∷ e ∷ g ∷ [])) ≡ f a ∷ f b ∷ f c ∷ f d ∷ f e ∷ f g ∷ []
six_pieces f a b c d e g ha hb hc hd he hg =
    ap (pieces_of 44) (six_nested (f a) (f b) (f c) (f d) (f e) (f g))
    ∙ place (f a) _ _ ha (place (f b) _ _ hb (place (f c) _ _ hc (place (f d) _ _ hd (place (f e) (f g) (f g ∷ []) he (own_piece 44 (f g) hg)))))

-- a text of two pieces or more is not empty, and no lone 0

two_pieces : (p q r : List ℕ) (rest : List (List ℕ)) → p ∷ [] ≡ q ∷ r ∷ rest → ⊥
two_pieces p q r rest e = let long = ap length e in omega (arith, long)

not_empty : (text q r : List ℕ) (rest : List (List ℕ)) → pieces_of 44 text ≡ q ∷ r ∷ rest → (length text == 0) ≡ false
not_empty [] q r rest h = absurd (two_pieces [] q r rest (sym (nothing 44) ∙ h))
not_empty (x ∷ text) q r rest h = grind (arith, nat_tests)

lone_zero : pieces_of 44 (codes "0") ≡ codes "0" ∷ []
unfolding pieces_of trimmed
lone_zero = refl

not_zero : (text q r : List ℕ) (rest : List (List ℕ)) → pieces_of 44 text ≡ q ∷ r ∷ rest → bytes_eq text (codes "0") ≡ false
not_zero text q r rest h = by (bytes_eq text (codes "0")) refl
  where
    by : (b : Bool) → bytes_eq text (codes "0") ≡ b → b ≡ false
    by true e =
        let same = (bytes_eq-Decides text (codes "0")).0 e in
        absurd (two_pieces (codes "0") q r rest (sym lone_zero ∙ ap (pieces_of 44) (sym same) ∙ h))
    by false e = refl

-- six numbers

number_cons : (most : ℕ) (p : List ℕ) (x : Option ℕ) (ps : List (List ℕ)) (xs : Spread) → number_if_any most p ≡ Some x → each_number most ps ≡ Some xs
    → each_number most (p ∷ ps) ≡ Some (x ∷ xs)
unfolding each_number
number_cons most p x ps xs h k = rw (h, k) refl

no_numbers : (most : ℕ) → each_number most [] ≡ Some []
unfolding each_number
no_numbers most = refl

six_read : (most : ℕ) (p0 p1 p2 p3 p4 p5 : List ℕ) (x0 x1 x2 x3 x4 x5 : Option ℕ) → number_if_any most p0 ≡ Some x0 → number_if_any most p1 ≡ Some x1
    → number_if_any most p2 ≡ Some x2 → number_if_any most p3 ≡ Some x3 → number_if_any most p4 ≡ Some x4 → number_if_any most p5 ≡ Some x5
    → six_numbers most (p0 ∷ p1 ∷ p2 ∷ p3 ∷ p4 ∷ p5 ∷ []) ≡ Some (x0 ∷ x1 ∷ x2 ∷ x3 ∷ x4 ∷ x5 ∷ [])
unfolding six_numbers
six_read most p0 p1 p2 p3 p4 p5 x0 x1 x2 x3 x4 x5 h0 h1 h2 h3 h4 h5 =
    number_cons most p0 x0 _ _ h0 (number_cons most p1 x1 _ _ h1 (number_cons most p2 x2 _ _ h2 (number_cons most p3 x3 _ _ h3
    (number_cons most p4 x4 _ _ h4 (number_cons most p5 x5 [] [] h5 (no_numbers most))))))

ev_spelled : (n : ℕ) → n < 253 → number_if_any 255 (three n) ≡ Some (Some n)
unfolding number_if_any number_of
ev_spelled n low = each (λ n. number_if_any 255 (three n)) (λ n. Some (Some n)) 0 253 refl n (omega arith) (omega (arith, low))

ev_number : (n : ℕ) → n < 253 → number_if_any 255 (decimal n) ≡ Some (Some n)
ev_number n low = ap (number_if_any 255) (three_is n (omega (arith, low))) ∙ ev_spelled n low

iv_spelled : (n : ℕ) → n < 32 → number_if_any 31 (three n) ≡ Some (Some n)
unfolding number_if_any number_of
iv_spelled n low = each (λ n. number_if_any 31 (three n)) (λ n. Some (Some n)) 0 32 refl n (omega arith) (omega (arith, low))

iv_none : number_if_any 31 [] ≡ Some None
unfolding number_if_any
iv_none = refl

iv_number : (n : ℕ) → n < 32 → number_if_any 31 (iv_place n) ≡ Some (said n)
iv_number n low = by (n == 31)
  where
    by : (t : Bool) → number_if_any 31 (if t then [] else decimal n) ≡ Some (if t then None else Some n)
    by true = iv_none
    by false = ap (number_if_any 31) (three_is n (omega (arith, low))) ∙ iv_spelled n low

iv_clean : (c n : ℕ) → (n < 256 → clean c (decimal n) ≡ true) → n < 256 → clean c (iv_place n) ≡ true
iv_clean c n h low = by (n == 31)
  where
    by : (t : Bool) → clean c (if t then [] else decimal n) ≡ true
    by true = refl
    by false = h low

-- the field of EVs

evs_empty : (s : Sheet) → with_packed_evs [] s ≡ Ok s
unfolding with_packed_evs
evs_empty s = refl

evs_field : (text : List ℕ) (s : Sheet) (evs : Spread) (exp : List ℕ) → (length text == 0) ≡ false
    → (if bytes_eq text (codes "0") then Some nothing_said else six_numbers 255 (pieces_of 44 text)) ≡ Some evs → exp_of_evs evs ≡ Ok exp
    → with_packed_evs text s ≡ Ok (record s { exp = exp })
unfolding with_packed_evs
evs_field text s evs exp some told is = rw (some, told, is) refl

no_exp : exp_of_evs nothing_said ≡ Ok (replicate 5 0)
unfolding exp_of_evs
no_exp = refl

alike : (v : ℕ) (xs : List ℕ) → list_all (λ x. x == v) xs ≡ true → map (λ x. x * x) xs ≡ replicate (length xs) (v * v)
alike v [] h = refl
alike v (x ∷ xs) h =
    let parts = both (x == v) (list_all (λ x. x == v) xs) h in
    let is = eqb-true x v parts.0 in
    (λ i. is i * is i ∷ alike v xs parts.1 i)

-- the squares of six in the order of the experience
abbrev in_order : List ℕ → List ℕ
in_order x = slice_index x 0 ∷ slice_index x 1 ∷ slice_index x 2 ∷ slice_index x 5 ∷ slice_index x 3 ∷ []

abbrev evs_list : ℕ → ℕ → ℕ → ℕ → ℕ → List ℕ
evs_list a b c d e = a ∷ b ∷ c ∷ d ∷ d ∷ e ∷ []

abbrev exp_list : ℕ → ℕ → ℕ → ℕ → ℕ → List ℕ
exp_list a b c d e = a * a ∷ b * b ∷ c * c ∷ e * e ∷ d * d ∷ []

ev_pieces : (a b c d e : ℕ) → a < 253 → b < 253 → c < 253 → d < 253 → e < 253
    → pieces_of 44 (six decimal (evs_list a b c d e)) ≡ decimal a ∷ decimal b ∷ decimal c ∷ decimal d ∷ decimal d ∷ decimal e ∷ []
ev_pieces a b c d e la lb lc ld le =
    six_pieces decimal a b c d d e (one a la) (one b lb) (one c lc) (one d ld) (one d ld) (one e le)
  where
    one : (n : ℕ) → n < 253 → clean 44 (decimal n) ≡ true
    one n h = commas n (omega (arith, h))

ev_numbers : (a b c d e : ℕ) → a < 253 → b < 253 → c < 253 → d < 253 → e < 253
    → six_numbers 255 (pieces_of 44 (six decimal (evs_list a b c d e))) ≡ Some (Some a ∷ Some b ∷ Some c ∷ Some d ∷ Some d ∷ Some e ∷ [])
ev_numbers a b c d e la lb lc ld le =
    ap (six_numbers 255) (ev_pieces a b c d e la lb lc ld le)
    ∙ six_read 255 (decimal a) (decimal b) (decimal c) (decimal d) (decimal d) (decimal e) (Some a) (Some b) (Some c) (Some d) (Some d) (Some e)
    (ev_number a la) (ev_number b lb) (ev_number c lc) (ev_number d ld) (ev_number d ld) (ev_number e le)

evs_packed : (a b c d e : ℕ) (s : Sheet) → a < 253 → b < 253 → c < 253 → d < 253 → e < 253 → s.exp ≡ replicate 5 63504
    → with_packed_evs (packed_evs (evs_list a b c d e)) s ≡ Ok (record s { exp = exp_list a b c d e })
evs_packed a b c d e s la lb lc ld le is =
    by (list_all (λ ev. ev == 252) (evs_list a b c d e)) (list_all (λ ev. ev == 0) (evs_list a b c d e)) refl refl
  where
    other : bytes_eq (six decimal (evs_list a b c d e)) (codes "0") ≡ false
    other = not_zero (six decimal (evs_list a b c d e)) _ _ _ (ev_pieces a b c d e la lb lc ld le)

    by : (t z : Bool) → list_all (λ ev. ev == 252) (evs_list a b c d e) ≡ t → list_all (λ ev. ev == 0) (evs_list a b c d e) ≡ z
        → with_packed_evs (if t then [] else if z then codes "0" else six decimal (evs_list a b c d e)) s ≡ Ok (record s { exp = exp_list a b c d e })
    by true z h k = evs_empty s ∙ ap (λ (l : List ℕ). Ok (record s { exp = l })) (is ∙ sym (ap in_order (alike 252 (evs_list a b c d e) h)))
    by false true h k =
        evs_field (codes "0") s nothing_said (replicate 5 0) refl refl no_exp
        ∙ ap (λ (l : List ℕ). Ok (record s { exp = l })) (sym (ap in_order (alike 0 (evs_list a b c d e) k)))
    by false false h k =
        evs_field (six decimal (evs_list a b c d e)) s (Some a ∷ Some b ∷ Some c ∷ Some d ∷ Some d ∷ Some e ∷ []) (exp_list a b c d e)
        (not_empty (six decimal (evs_list a b c d e)) _ _ _ (ev_pieces a b c d e la lb lc ld le))
        (ap (λ (t : Bool). if t then Some nothing_said else six_numbers 255 (pieces_of 44 (six decimal (evs_list a b c d e)))) other
        ∙ ev_numbers a b c d e la lb lc ld le)
        (exp_told a b c d e)

-- the field of IVs

ivs_empty : (s : Sheet) → with_packed_ivs [] s ≡ Ok s
unfolding with_packed_ivs
ivs_empty s = refl

ivs_field : (text : List ℕ) (s : Sheet) (ivs : Spread) (dvs : List ℕ) → (length text == 0) ≡ false → six_numbers 31 (pieces_of 44 text) ≡ Some ivs
    → dvs_of_ivs ivs ≡ Ok dvs → with_packed_ivs text s ≡ Ok (record s { dvs = dvs })
unfolding with_packed_ivs
ivs_field text s ivs dvs some told is = rw (some, told, is) refl

full : (n : ℕ) → n < 16 → (iv n == 31) ≡ true → n ≡ 15
full n low h = by (n == 15) refl h
  where
    by : (t : Bool) → (n == 15) ≡ t → ((if t then 31 else 2 * n) == 31) ≡ true → n ≡ 15
    by true e h = eqb-true n 15 e
    by false e h = let odd = eqb-true (2 * n) 31 h in absurd (omega (arith, odd))

iv_low : (n : ℕ) → n < 16 → iv n < 32
iv_low n h = by (n == 15)
  where
    by : (t : Bool) → (if t then 31 else 2 * n) < 32
    by true = omega arith
    by false = omega (arith, h)

abbrev ivs_list : ℕ → ℕ → ℕ → ℕ → ℕ → List ℕ
ivs_list h a b c d = iv h ∷ iv a ∷ iv b ∷ iv c ∷ iv c ∷ iv d ∷ []

iv_pieces : (h a b c d : ℕ) → h < 16 → a < 16 → b < 16 → c < 16 → d < 16
    → pieces_of 44 (six iv_place (ivs_list h a b c d))
    ≡ iv_place (iv h) ∷ iv_place (iv a) ∷ iv_place (iv b) ∷ iv_place (iv c) ∷ iv_place (iv c) ∷ iv_place (iv d) ∷ []
iv_pieces h a b c d lh la lb lc ld =
    six_pieces iv_place (iv h) (iv a) (iv b) (iv c) (iv c) (iv d) (one h lh) (one a la) (one b lb) (one c lc) (one c lc) (one d ld)
  where
    one : (n : ℕ) → n < 16 → clean 44 (iv_place (iv n)) ≡ true
    one n h = iv_clean 44 (iv n) (commas (iv n)) (let low = iv_low n h in omega (arith, low))

iv_numbers : (h a b c d : ℕ) → h < 16 → a < 16 → b < 16 → c < 16 → d < 16
    → six_numbers 31 (pieces_of 44 (six iv_place (ivs_list h a b c d)))
    ≡ Some (said (iv h) ∷ said (iv a) ∷ said (iv b) ∷ said (iv c) ∷ said (iv c) ∷ said (iv d) ∷ [])
iv_numbers h a b c d lh la lb lc ld =
    ap (six_numbers 31) (iv_pieces h a b c d lh la lb lc ld)
    ∙ six_read 31 (iv_place (iv h)) (iv_place (iv a)) (iv_place (iv b)) (iv_place (iv c)) (iv_place (iv c)) (iv_place (iv d))
    (said (iv h)) (said (iv a)) (said (iv b)) (said (iv c)) (said (iv c)) (said (iv d))
    (read h lh) (read a la) (read b lb) (read c lc) (read c lc) (read d ld)
  where
    read : (n : ℕ) → n < 16 → number_if_any 31 (iv_place (iv n)) ≡ Some (said (iv n))
    read n h = iv_number (iv n) (iv_low n h)

all_full : (h a b c d : ℕ) → a < 16 → b < 16 → c < 16 → d < 16 → list_all (λ iv. iv == 31) (ivs_list h a b c d) ≡ true
    → replicate 4 15 ≡ a ∷ b ∷ d ∷ c ∷ []
all_full h a b c d la lb lc ld all =
    let pa = both (iv a == 31) _ (both (iv h == 31) _ all).1 in
    let pb = both (iv b == 31) _ pa.1 in
    let pc = both (iv c == 31) _ pb.1 in
    let pd = both (iv d == 31) true (both (iv c == 31) _ pc.1).1 in
    (λ i. sym (full a la pa.0) i ∷ sym (full b lb pb.0) i ∷ sym (full d ld pd.0) i ∷ sym (full c lc pc.0) i ∷ [])

ivs_packed : (a b c d : ℕ) (s : Sheet) → a < 16 → b < 16 → c < 16 → d < 16 → s.dvs ≡ replicate 4 15
    → with_packed_ivs (packed_ivs (ivs_list (hp_dv a b d c) a b c d)) s ≡ Ok (record s { dvs = a ∷ b ∷ d ∷ c ∷ [] })
ivs_packed a b c d s la lb lc ld is = by (list_all (λ iv. iv == 31) (ivs_list (hp_dv a b d c) a b c d)) refl
  where
    by : (t : Bool) → list_all (λ iv. iv == 31) (ivs_list (hp_dv a b d c) a b c d) ≡ t
        → with_packed_ivs (if t then [] else six iv_place (ivs_list (hp_dv a b d c) a b c d)) s ≡ Ok (record s { dvs = a ∷ b ∷ d ∷ c ∷ [] })
    by true h = ivs_empty s ∙ ap (λ (l : List ℕ). Ok (record s { dvs = l })) (is ∙ all_full (hp_dv a b d c) a b c d la lb lc ld h)
    by false h =
        let low = hp_low a b d c in
        ivs_field (six iv_place (ivs_list (hp_dv a b d c) a b c d)) s
        (said (iv (hp_dv a b d c)) ∷ said (iv a) ∷ said (iv b) ∷ said (iv c) ∷ said (iv c) ∷ said (iv d) ∷ []) (a ∷ b ∷ d ∷ c ∷ [])
        (not_empty (six iv_place (ivs_list (hp_dv a b d c) a b c d)) _ _ _ (iv_pieces (hp_dv a b d c) a b c d low la lb lc ld))
        (iv_numbers (hp_dv a b d c) a b c d low la lb lc ld) (dvs_told a b c d la lb lc ld)

-- the field of a level

level_empty : (s : Sheet) → with_packed_level [] s ≡ Ok s
unfolding with_packed_level
level_empty s = refl

level_spelled : (n : ℕ) → n < 101 → number_of 100 (three n) ≡ Some n
unfolding number_of
level_spelled n low = each (λ n. number_of 100 (three n)) (λ n. Some n) 0 101 refl n (omega arith) (omega (arith, low))

some_digits : (n : ℕ) → n < 101 → (length (three n) == 0) ≡ false
some_digits n low = each (λ n. length (three n) == 0) (λ n. false) 0 101 refl n (omega arith) (omega (arith, low))

no_zero : (n : ℕ) → 1 ≤ n → (n == 0) ≡ false
no_zero n h = grind (arith, nat_tests)

level_field : (n : ℕ) (text : List ℕ) (s : Sheet) → (length text == 0) ≡ false → number_of 100 text ≡ Some n → (n == 0) ≡ false
    → with_packed_level text s ≡ Ok (record s { level = n })
unfolding with_packed_level with_level
level_field n text s some is low = rw (some, is, low) refl

level_packed : (level : ℕ) (s : Sheet) → 1 ≤ level → level ≤ 100 → s.level ≡ 100 → with_packed_level (packed_level level) s ≡ Ok (record s { level = level })
level_packed level s low high is = by (level == 100) refl
  where
    by : (t : Bool) → (level == 100) ≡ t → with_packed_level (if t then [] else decimal level) s ≡ Ok (record s { level = level })
    by true e = level_empty s ∙ ap (λ n. Ok (record s { level = n })) (is ∙ sym (eqb-true level 100 e))
    by false e =
        ap (λ (l : List ℕ). with_packed_level l s) (three_is level (omega (arith, high)))
        ∙ level_field level (three level) s (some_digits level (omega (arith, high))) (level_spelled level (omega (arith, high))) (no_zero level low)

-- the field of moves

abbrev letters_of : ℕ × ℕ → List ℕ
letters_of chosen = id_of (move_name chosen.0)

comma_move : (n : ℕ) → 1 ≤ n → n ≤ 165 → clean 44 (id_of (move_name n)) ≡ true
unfolding move_name move_names name_at
comma_move n low high = each (λ n. clean 44 (id_of (move_name n))) (λ n. true) 1 165 refl n low (omega arith)

bar_move : (n : ℕ) → 1 ≤ n → n ≤ 165 → clean 124 (id_of (move_name n)) ≡ true
unfolding move_name move_names name_at
bar_move n low high = each (λ n. clean 124 (id_of (move_name n))) (λ n. true) 1 165 refl n low (omega arith)

bracket_move : (n : ℕ) → 1 ≤ n → n ≤ 165 → clean 93 (id_of (move_name n)) ≡ true
unfolding move_name move_names name_at
bracket_move n low high = each (λ n. clean 93 (id_of (move_name n))) (λ n. true) 1 165 refl n low (omega arith)

lettered : (n : ℕ) → 1 ≤ n → n ≤ 165 → nat_lt 0 (length (id_of (move_name n))) ≡ true
unfolding move_name move_names name_at
lettered n low high = each (λ n. nat_lt 0 (length (id_of (move_name n)))) (λ n. true) 1 165 refl n low (omega arith)

few_moves : (n : ℕ) → n < 4 → nat_le 4 n ≡ false
few_moves n h = grind (arith, nat_tests)

move_found : (n : ℕ) → 1 ≤ n → n ≤ 165 → move_called (id_of (move_name n)) ≡ Some n
move_found n low high = sym (move_by_letters (move_name n)) ∙ move_own n low high

move_added : (n : ℕ) (s : Sheet) → 1 ≤ n → n ≤ 165 → length s.moves < 4
    → with_move (id_of (move_name n)) s ≡ Ok (record s { moves = s.moves ++ (n, 3) ∷ [] })
unfolding with_move
move_added n s low high room =
    ap (λ (b : Bool). if b then Err FifthMove
    else result_then (λ move. Ok (record s { moves = s.moves ++ (move, 3) ∷ [] })) (ok_or (move_called (id_of (move_name n))) Move)) (few_moves (length s.moves) room)
    ∙ ap (λ (o : Option ℕ). result_then (λ move. Ok (record s { moves = s.moves ++ (move, 3) ∷ [] })) (ok_or o Move)) (move_found n low high)

moves_told : (moves : List (ℕ × ℕ)) (s : Sheet) → All IsMove moves → length s.moves + length moves ≤ 4
    → with_moves (map letters_of moves) s ≡ Ok (record s { moves = s.moves ++ moves })
moves_told [] s h few = moves_end s [] refl ∙ ap (λ (l : List (ℕ × ℕ)). Ok (record s { moves = l })) (sym (append-nil s.moves))
moves_told (chosen ∷ moves) s h few =
    let is = All-head IsMove chosen moves h in
    let long : length (s.moves ++ (chosen.0, 3) ∷ []) ≡ length s.moves + 1 = length-append s.moves ((chosen.0, 3) ∷ []) in
    moves_go s (map letters_of (chosen ∷ moves)) (map letters_of moves) (letters_of chosen) refl
    (record s { moves = s.moves ++ (chosen.0, 3) ∷ [] })
    (ltb-true 0 (length (letters_of chosen)) (lettered chosen.0 is.low is.high))
    (move_added chosen.0 s is.low is.high (omega (arith, few)))
    ∙ moves_told moves (record s { moves = s.moves ++ (chosen.0, 3) ∷ [] }) (All-tail IsMove chosen moves h) (omega (arith, few, long))
    ∙ ap (λ (l : List (ℕ × ℕ)). Ok (record s { moves = l })) (append_assoc s.moves ((chosen.0, 3) ∷ []) moves)
    ∙ ap (λ ups. Ok (record s { moves = s.moves ++ (chosen.0, ups) ∷ moves })) (sym is.ups)

move_pieces : (m : ℕ × ℕ) (moves : List (ℕ × ℕ)) → All IsMove (m ∷ moves) → pieces_of 44 (packed_moves (m ∷ moves)) ≡ map letters_of (m ∷ moves)
move_pieces m [] h = let is = All-head IsMove m [] h in own_piece 44 (letters_of m) (comma_move m.0 is.low is.high)
move_pieces m (n ∷ moves) h =
    let is = All-head IsMove m (n ∷ moves) h in
    place (letters_of m) (packed_moves (n ∷ moves)) _ (comma_move m.0 is.low is.high) (move_pieces n moves (All-tail IsMove m (n ∷ moves) h))

moves_packed : (moves : List (ℕ × ℕ)) (s : Sheet) → All IsMove moves → length s.moves + length moves ≤ 4
    → with_moves (pieces_of 44 (packed_moves moves)) s ≡ Ok (record s { moves = s.moves ++ moves })
moves_packed [] s h few =
    ap (λ (l : List (List ℕ)). with_moves l s) (nothing 44) ∙ moves_skip s ([] ∷ []) [] [] refl refl ∙ moves_told [] s h few
moves_packed (m ∷ moves) s h few = ap (λ (l : List (List ℕ)). with_moves l s) (move_pieces m moves h) ∙ moves_told (m ∷ moves) s h few

clean_moves : (c : ℕ) (moves : List (ℕ × ℕ)) → clean c (codes ",") ≡ true → ((n : ℕ) → 1 ≤ n → n ≤ 165 → clean c (id_of (move_name n)) ≡ true)
    → All IsMove moves → clean c (packed_moves moves) ≡ true
clean_moves c [] comma each h = refl
clean_moves c (m ∷ []) comma each h = let is = All-head IsMove m [] h in each m.0 is.low is.high
clean_moves c (m ∷ n ∷ moves) comma each h =
    let is = All-head IsMove m (n ∷ moves) h in
    clean-append c (letters_of m) (44 ∷ packed_moves (n ∷ moves)) (each m.0 is.low is.high)
    (clean-append c (codes ",") (packed_moves (n ∷ moves)) comma (clean_moves c (n ∷ moves) comma each (All-tail IsMove m (n ∷ moves) h)))

-- all fields are clean

clean_more : (c : ℕ) (x p : List ℕ) → clean c (codes ",") ≡ true → clean c x ≡ true → clean c p ≡ true → clean c (x ++ codes "," ++ p) ≡ true
clean_more c x p comma h k = clean-append c (x ++ codes ",") p (clean-append c x (codes ",") h comma) k

clean_six : (c : ℕ) (f : ℕ → List ℕ) (a b d e g h : ℕ) → clean c (codes ",") ≡ true → clean c (f a) ≡ true → clean c (f b) ≡ true → clean c (f d) ≡ true
    → clean c (f e) ≡ true → clean c (f g) ≡ true → clean c (f h) ≡ true → clean c (six f (a ∷ b ∷ d ∷ e ∷ g ∷ h ∷ [])) ≡ true
clean_six c f a b d e g h comma ha hb hd he hg hh =
    let x1 = f a ++ codes "," ++ f b in
    let x2 = x1 ++ codes "," ++ f d in
    let x3 = x2 ++ codes "," ++ f e in
    let x4 = x3 ++ codes "," ++ f g in
    clean_more c x4 (f h) comma (clean_more c x3 (f g) comma (clean_more c x2 (f e) comma (clean_more c x1 (f d) comma
    (clean_more c (f a) (f b) comma ha hb) hd) he) hg) hh

ev_low : (exp : ℕ) → ev exp < 256
ev_low exp = omega arith

clean_evs : (c : ℕ) (s : Sheet) → clean c (codes ",") ≡ true → clean c (codes "0") ≡ true → ((n : ℕ) → n < 256 → clean c (decimal n) ≡ true)
    → clean c (packed_evs (evs_of s)) ≡ true
clean_evs c s comma lone digits = by (list_all (λ ev. ev == 252) (evs_of s)) (list_all (λ ev. ev == 0) (evs_of s))
  where
    one : (k : ℕ) → clean c (decimal (ev_at k s)) ≡ true
    one k = digits (ev_at k s) (ev_low (slice_index s.exp k))

    by : (t z : Bool) → clean c (if t then [] else if z then codes "0" else six decimal (evs_of s)) ≡ true
    by true z = refl
    by false true = lone
    by false false = clean_six c decimal (ev_at 0 s) (ev_at 1 s) (ev_at 2 s) (ev_at 4 s) (ev_at 4 s) (ev_at 3 s) comma (one 0) (one 1) (one 2) (one 4) (one 4) (one 3)

clean_ivs : (c : ℕ) (s : Sheet) → HasDvs s → clean c (codes ",") ≡ true → ((n : ℕ) → n < 256 → clean c (decimal n) ≡ true)
    → clean c (packed_ivs (ivs_of s)) ≡ true
clean_ivs c s has comma digits = by (list_all (λ iv. iv == 31) (ivs_of s))
  where
    one : (n : ℕ) → n < 16 → clean c (iv_place (iv n)) ≡ true
    one n h = iv_clean c (iv n) (digits (iv n)) (let low = iv_low n h in omega (arith, low))

    at : (k : ℕ) → clean c (iv_place (iv (dv k s))) ≡ true
    at k = one (dv k s) (let most = has k in omega (arith, most))

    by : (t : Bool) → clean c (if t then [] else six iv_place (ivs_of s)) ≡ true
    by true = refl
    by false =
        clean_six c iv_place (iv (hp_dv (dv 0 s) (dv 1 s) (dv 2 s) (dv 3 s))) (iv (dv 0 s)) (iv (dv 1 s)) (iv (dv 3 s)) (iv (dv 3 s)) (iv (dv 2 s)) comma
        (one (hp_dv (dv 0 s) (dv 1 s) (dv 2 s) (dv 3 s)) (hp_low (dv 0 s) (dv 1 s) (dv 2 s) (dv 3 s)))
        (at 0) (at 1) (at 3) (at 3) (at 2)

clean_level : (c level : ℕ) → level ≤ 100 → ((n : ℕ) → n < 256 → clean c (decimal n) ≡ true) → clean c (packed_level level) ≡ true
clean_level c level high digits = by (level == 100)
  where
    by : (t : Bool) → clean c (if t then [] else decimal level) ≡ true
    by true = refl
    by false = digits level (omega (arith, high))

-- a member's twelve fields

name_bars : (n : ℕ) → 1 ≤ n → n ≤ 151 → pieces_of 124 (species_name n) ≡ species_name n ∷ []
unfolding species_name species_names name_at pieces_of trimmed
name_bars n low high = each (λ n. pieces_of 124 (species_name n)) (λ n. species_name n ∷ []) 1 151 refl n low (omega arith)

name_lacks : (n : ℕ) → 1 ≤ n → n ≤ 151 → lacks 93 (species_name n) ≡ true
unfolding species_name species_names name_at
name_lacks n low high = each (λ n. lacks 93 (species_name n)) (λ n. true) 1 151 refl n low (omega arith)

-- the fields, each before the rest
abbrev in_turn : List ℕ → List ℕ → List ℕ → List ℕ → List ℕ → List ℕ
in_turn n m e i l = n ++ 124 ∷ (124 ∷ (124 ∷ (124 ∷ (m ++ 124 ∷ (124 ∷ (e ++ 124 ∷ (124 ∷ (i ++ 124 ∷ (124 ∷ (l ++ 124 ∷ []))))))))))

member_in_turn : (n m e i l : List ℕ)
    → n ++ codes "||||" ++ m ++ codes "||" ++ e ++ codes "||" ++ i ++ codes "||" ++ l ++ codes "|" ≡ in_turn n m e i l
member_in_turn n m e i l =
    let x1 = n ++ codes "||||" ++ m in
    let x2 = x1 ++ codes "||" ++ e in
    let x3 = x2 ++ codes "||" ++ i in
    let r4 = l ++ codes "|" in
    let r3 = i ++ (codes "||" ++ r4) in
    let r2 = e ++ (codes "||" ++ r3) in
    append_assoc (x3 ++ codes "||") l (codes "|") ∙ append_assoc x3 (codes "||") r4
    ∙ append_assoc (x2 ++ codes "||") i (codes "||" ++ r4) ∙ append_assoc x2 (codes "||") r3
    ∙ append_assoc (x1 ++ codes "||") e (codes "||" ++ r3) ∙ append_assoc x1 (codes "||") r2
    ∙ append_assoc (n ++ codes "||||") m (codes "||" ++ r2) ∙ append_assoc n (codes "||||") (m ++ (codes "||" ++ r2))

bar : (p rest : List ℕ) (parts : List (List ℕ)) → pieces_of 124 p ≡ p ∷ [] → pieces_of 124 rest ≡ parts → pieces_of 124 (p ++ 124 ∷ rest) ≡ p ∷ parts
bar p rest parts h e = next_piece 124 p rest refl h ∙ ap (λ (l : List (List ℕ)). p ∷ l) e

empty : (rest : List ℕ) (parts : List (List ℕ)) → pieces_of 124 rest ≡ parts → pieces_of 124 (124 ∷ rest) ≡ [] ∷ parts
empty rest parts e = bar [] rest parts (nothing 124) e

abbrev fields : List ℕ → List ℕ → List ℕ → List ℕ → List ℕ → List (List ℕ)
fields n m e i l = n ∷ [] ∷ [] ∷ [] ∷ m ∷ [] ∷ e ∷ [] ∷ i ∷ [] ∷ l ∷ [] ∷ []

twelve : (n m e i l : List ℕ) → pieces_of 124 n ≡ n ∷ [] → clean 124 m ≡ true → clean 124 e ≡ true → clean 124 i ≡ true → clean 124 l ≡ true
    → pieces_of 124 (in_turn n m e i l) ≡ fields n m e i l
twelve n m e i l hn hm he hi hl =
    bar n _ _ hn (empty _ _ (empty _ _ (empty _ _ (bar m _ _ (own_piece 124 m hm) (empty _ _ (bar e _ _ (own_piece 124 e he) (empty _ _
    (bar i _ _ (own_piece 124 i hi) (empty _ _ (bar l [] _ (own_piece 124 l hl) (nothing 124)))))))))))

named_own : (n : ℕ) → 1 ≤ n → n ≤ 151 → named (species_name n) ≡ Ok (fresh n)
unfolding named
named_own n low high = ap (λ (o : Option ℕ). result_then (λ species. Ok (fresh species)) (ok_or o Species)) (species_own n low high)

no_item : (s : Sheet) → without_item [] s ≡ Ok s
unfolding without_item
no_item s = refl

-- a member that has these fields

fields_told : (member : ℕ) (text n m e i l : List ℕ) → pieces_of 124 text ≡ fields n m e i l
    → unpacked member text ≡ then_field member 11 (λ sheet. with_packed_level l sheet)
    (then_field member 9 (λ sheet. with_packed_ivs i sheet) (then_field member 7 (λ sheet. with_packed_evs e sheet)
    (then_field member 5 (λ sheet. with_moves (pieces_of 44 m) sheet) (then_field member 3 (λ sheet. without_item [] sheet)
    (in_field member 2 (named n))))))
unfolding unpacked field species_field
fields_told member text n m e i l h =
    ap (λ (pieces : List (List ℕ)). if not (length pieces == 12) then Err (Fields member)
    else then_field member 11 (λ sheet. with_packed_level (slice_index_or pieces 10 []) sheet)
    (then_field member 9 (λ sheet. with_packed_ivs (slice_index_or pieces 8 []) sheet)
    (then_field member 7 (λ sheet. with_packed_evs (slice_index_or pieces 6 []) sheet)
    (then_field member 5 (λ sheet. with_moves (pieces_of 44 (slice_index_or pieces 4 [])) sheet)
    (then_field member 3 (λ sheet. without_item (slice_index_or pieces 2 []) sheet)
    (in_field member 2 (named (if length (slice_index_or pieces 1 []) == 0 then slice_index_or pieces 0 [] else slice_index_or pieces 1 [])))))))) h

abbrev after_ivs : ℕ → List ℕ → Result Sheet PackedFault → Result Sheet PackedFault
after_ivs member l r = then_field member 11 (λ sheet. with_packed_level l sheet) r

abbrev after_evs : ℕ → List ℕ → List ℕ → Result Sheet PackedFault → Result Sheet PackedFault
after_evs member i l r = after_ivs member l (then_field member 9 (λ sheet. with_packed_ivs i sheet) r)

abbrev after_moves : ℕ → List ℕ → List ℕ → List ℕ → Result Sheet PackedFault → Result Sheet PackedFault
after_moves member e i l r = after_evs member i l (then_field member 7 (λ sheet. with_packed_evs e sheet) r)

abbrev after_item : ℕ → List ℕ → List ℕ → List ℕ → List ℕ → Result Sheet PackedFault → Result Sheet PackedFault
after_item member m e i l r = after_moves member e i l (then_field member 5 (λ sheet. with_moves (pieces_of 44 m) sheet) r)

fields_read : (member : ℕ) (text n m e i l : List ℕ) (s0 s1 s2 s3 s4 : Sheet) → pieces_of 124 text ≡ fields n m e i l → named n ≡ Ok s0
    → with_moves (pieces_of 44 m) s0 ≡ Ok s1 → with_packed_evs e s1 ≡ Ok s2 → with_packed_ivs i s2 ≡ Ok s3 → with_packed_level l s3 ≡ Ok s4
    → unpacked member text ≡ Ok s4
fields_read member text n m e i l s0 s1 s2 s3 s4 h h0 h1 h2 h3 h4 =
    fields_told member text n m e i l h
    ∙ ap (λ (r : Result Sheet MemberFault). after_item member m e i l (then_field member 3 (λ sheet. without_item [] sheet) (in_field member 2 r))) h0
    ∙ ap (λ (r : Result Sheet MemberFault). after_item member m e i l (in_field member 3 r)) (no_item s0)
    ∙ ap (λ (r : Result Sheet MemberFault). after_moves member e i l (in_field member 5 r)) h1
    ∙ ap (λ (r : Result Sheet MemberFault). after_evs member i l (in_field member 7 r)) h2
    ∙ ap (λ (r : Result Sheet MemberFault). after_ivs member l (in_field member 9 r)) h3
    ∙ ap (λ (r : Result Sheet MemberFault). in_field member 11 r) h4

member_read : (member : ℕ) (s : Sheet) → IsWritable s → unpacked member (packed_member s) ≡ Ok (as_read s)
member_read member s h =
    let first = fresh s.species in
    let second = record first { moves = s.moves } in
    let third = record second { exp = (as_read s).exp } in
    let fourth = record third { dvs = (as_read s).dvs } in
    let low : (k : ℕ) → dv k s < 16 = λ k. let most = h.dvs k in omega (arith, most) in
    let small : (k : ℕ) → ev_at k s < 253 = λ k. omega arith in
    fields_read member (packed_member s) (species_name s.species) (packed_moves s.moves) (packed_evs (evs_of s)) (packed_ivs (ivs_of s)) (packed_level s.level)
    first second third fourth (as_read s)
    (ap (pieces_of 124) (member_in_turn (species_name s.species) (packed_moves s.moves) (packed_evs (evs_of s)) (packed_ivs (ivs_of s)) (packed_level s.level))
    ∙ twelve (species_name s.species) (packed_moves s.moves) (packed_evs (evs_of s)) (packed_ivs (ivs_of s)) (packed_level s.level)
    (name_bars s.species h.species_low h.species_high) (clean_moves 124 s.moves refl bar_move h.moves) (clean_evs 124 s refl refl bars)
    (clean_ivs 124 s h.dvs refl bars) (clean_level 124 s.level h.level_high bars))
    (named_own s.species h.species_low h.species_high)
    (moves_packed s.moves first h.moves (let few = h.few in omega (arith, few)))
    (evs_packed (ev_at 0 s) (ev_at 1 s) (ev_at 2 s) (ev_at 4 s) (ev_at 3 s) second (small 0) (small 1) (small 2) (small 4) (small 3) refl)
    (ivs_packed (dv 0 s) (dv 1 s) (dv 3 s) (dv 2 s) third (low 0) (low 1) (low 3) (low 2) refl)
    (level_packed s.level fourth h.level_low h.level_high refl)

-- a member among the others of its line

name_begins : (n : ℕ) → 1 ≤ n → n ≤ 151 → begins (species_name n) ≡ true
unfolding species_name species_names name_at
name_begins n low high = each (λ n. begins (species_name n)) (λ n. true) 1 151 refl n low (omega arith)

begins-append : (a b : List ℕ) → begins a ≡ true → begins (a ++ b) ≡ true
begins-append [] b h = cc
begins-append (x ∷ a) b h = h

member_begins : (s : Sheet) → IsWritable s → begins (packed_member s) ≡ true
member_begins s h =
    let n = species_name s.species in
    let m = packed_moves s.moves in
    let e = packed_evs (evs_of s) in
    let i = packed_ivs (ivs_of s) in
    let l = packed_level s.level in
    ap begins (member_in_turn n m e i l) ∙ begins-append n _ (name_begins s.species h.species_low h.species_high)

member_lacks : (s : Sheet) → IsWritable s → lacks 93 (packed_member s) ≡ true
member_lacks s h =
    let n = species_name s.species in
    let m = packed_moves s.moves in
    let e = packed_evs (evs_of s) in
    let i = packed_ivs (ivs_of s) in
    let l = packed_level s.level in
    let l1 = lacks-append 93 (n ++ codes "||||") m (lacks-append 93 n (codes "||||") (name_lacks s.species h.species_low h.species_high) refl)
    (clean-lacks 93 m (clean_moves 93 s.moves refl bracket_move h.moves)) in
    let l2 = lacks-append 93 (n ++ codes "||||" ++ m ++ codes "||") e (lacks-append 93 (n ++ codes "||||" ++ m) (codes "||") l1 refl)
    (clean-lacks 93 e (clean_evs 93 s refl refl brackets)) in
    let l3 = lacks-append 93 (n ++ codes "||||" ++ m ++ codes "||" ++ e ++ codes "||") i (lacks-append 93 (n ++ codes "||||" ++ m ++ codes "||" ++ e) (codes "||") l2 refl)
    (clean-lacks 93 i (clean_ivs 93 s h.dvs refl brackets)) in
    let l4 = lacks-append 93 (n ++ codes "||||" ++ m ++ codes "||" ++ e ++ codes "||" ++ i ++ codes "||") l
    (lacks-append 93 (n ++ codes "||||" ++ m ++ codes "||" ++ e ++ codes "||" ++ i) (codes "||") l3 refl)
    (clean-lacks 93 l (clean_level 93 s.level h.level_high brackets)) in
    lacks-append 93 (n ++ codes "||||" ++ m ++ codes "||" ++ e ++ codes "||" ++ i ++ codes "||" ++ l) (codes "|") l4 refl

member_ends : (s : Sheet) → ends (packed_member s) ≡ true
member_ends s =
    ends-append (species_name s.species ++ codes "||||" ++ packed_moves s.moves ++ codes "||" ++ packed_evs (evs_of s) ++ codes "||"
    ++ packed_ivs (ivs_of s) ++ codes "||" ++ packed_level s.level) (codes "|") refl

-- the line feed after the last

at_seam : (xs : List ℕ) → get_or (xs ++ 10 ∷ []) (length xs) 0 ≡ 10
at_seam [] = refl
at_seam (x ∷ xs) = at_seam xs

before_seam : (xs ys : List ℕ) (k : ℕ) → k < length xs → get_or (xs ++ ys) k 0 ≡ get_or xs k 0
before_seam [] ys k h = absurd (omega arith)
before_seam (x ∷ xs) ys zero h = refl
before_seam (x ∷ xs) ys (suc k) h = before_seam xs ys k (omega arith)

take_front : (xs ys : List ℕ) → take (length xs) (xs ++ ys) ≡ xs
take_front [] ys = refl
take_front (x ∷ xs) ys = ap (λ (l : List ℕ). x ∷ l) (take_front xs ys)

feed_ends : (xs : List ℕ) → ends xs ≡ true → trimmed_end (xs ++ 10 ∷ []) ≡ xs
feed_ends xs h =
    let last = last_of xs h in
    let long : length (xs ++ 10 ∷ []) ≡ length xs + 1 = length-append xs (10 ∷ []) in
    let one : suffix_len is_ascii_whitespace (xs ++ 10 ∷ []) ≡ length (xs ++ 10 ∷ []) - length xs =
    suffix_len_is is_ascii_whitespace (xs ++ 10 ∷ []) (length xs) 0 (omega (arith, long))
    (λ k low high. let here : k ≡ length xs = omega (arith, long, low, high) in
    ap (λ n. is_ascii_whitespace (get_or (xs ++ 10 ∷ []) n 0)) here ∙ ap is_ascii_whitespace (at_seam xs))
    (λ some. ap is_ascii_whitespace (before_seam xs (10 ∷ []) (length xs - 1) (omega (arith, some))) ∙ last.1) in
    let rest : length (xs ++ 10 ∷ []) - suffix_len is_ascii_whitespace (xs ++ 10 ∷ []) ≡ length xs = omega (arith, long, one) in
    ap (λ n. take n (xs ++ 10 ∷ [])) rest ∙ take_front xs (10 ∷ [])

trim_feed : (xs : List ℕ) → begins xs ≡ true → ends xs ≡ true → trimmed (xs ++ 10 ∷ []) ≡ xs
unfolding trimmed
trim_feed xs h k = ap trimmed_end (start_stays (xs ++ 10 ∷ []) (begins-append xs (10 ∷ []) h)) ∙ feed_ends xs k

last_piece : (c : ℕ) (xs : List ℕ) → lacks c xs ≡ true → (10 == c) ≡ false → begins xs ≡ true → ends xs ≡ true
    → pieces_of c (xs ++ 10 ∷ []) ≡ xs ∷ []
unfolding pieces_of
last_piece c xs h other k l =
    let feed : lacks c (10 ∷ []) ≡ true = ap (λ (t : Bool). not t && true) other in
    ap (map trimmed) (whole c (xs ++ 10 ∷ []) (lacks-append c xs (10 ∷ []) h feed)) ∙ ap (λ (x : List ℕ). x ∷ []) (trim_feed xs k l)

-- the members of a line

line_pieces : (s : Sheet) (sheets : List Sheet) → All IsWritable (s ∷ sheets) → pieces_of 93 (packed_of (s ∷ sheets)) ≡ map packed_member (s ∷ sheets)
line_pieces s [] h =
    let is = All-head IsWritable s [] h in last_piece 93 (packed_member s) (member_lacks s is) refl (member_begins s is) (member_ends s)
line_pieces s (t ∷ sheets) h =
    let is = All-head IsWritable s (t ∷ sheets) h in
    let rest = join_with_byte 93 (map packed_member (t ∷ sheets)) in
    ap (pieces_of 93) (append_assoc (packed_member s) (93 ∷ rest) (codes "\n"))
    ∙ next_piece 93 (packed_member s) (packed_of (t ∷ sheets)) refl
    (one_piece 93 (packed_member s) (member_lacks s is) (member_begins s is) (member_ends s))
    ∙ ap (λ (l : List (List ℕ)). packed_member s ∷ l) (line_pieces t sheets (All-tail IsWritable s (t ∷ sheets) h))

all_read : (members : ℕ) (sheets : List Sheet) → All IsWritable sheets → members + length sheets ≤ 6
    → all_unpacked members (map packed_member sheets) ≡ Ok (map as_read sheets)
all_read members [] h few = all-end members [] refl
all_read members (s ∷ sheets) h few =
    all-made members (map packed_member (s ∷ sheets)) (map packed_member sheets) (packed_member s) refl (as_read s) (omega (arith, few))
    (member_read (members + 1) s (All-head IsWritable s sheets h))
    ∙ ap (behind (as_read s ∷ [])) (all_read (members + 1) sheets (All-tail IsWritable s sheets h) (omega (arith, few)))

pub packed_back : (sheets : List Sheet) → All IsWritable sheets → 1 ≤ length sheets → length sheets ≤ 6
    → members_packed (packed_of sheets) ≡ Ok (map as_read sheets)
unfolding members_packed
packed_back [] h some few = absurd (omega (arith, some))
packed_back (s ∷ sheets) h some few = ap (all_unpacked 0) (line_pieces s sheets h) ∙ all_read 0 (s ∷ sheets) h (omega (arith, few))

pub packed_team_back : (sheets : List Sheet) → All IsWritable sheets → All HasDvs sheets → 1 ≤ length sheets → length sheets ≤ 6
    → team_refusal sheets ≡ None → team_packed (packed_of sheets) ≡ Ok (team_of sheets)
packed_team_back sheets h has some few none =
    ap team_unpacked (packed_back sheets h some few)
    ∙ ap (λ (o : Option TeamRefusal). elim o as (λ _. Result (List Member) PackedFault) [ None ↦ Ok (team_of (map as_read sheets)) | Some refusal ↦ Err (Team refusal) ])
    (team_allowed sheets has some few none)
    ∙ ap (λ (l : List Member). Ok l) (team_read sheets)
