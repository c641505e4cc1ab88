-- Texts that are put together a part at a time, the numbers in them, and EVs and IVs as they are read from their lines.
use Rattle.std.proofs.Common.{Bool, List, [], ap, arith, cond, drop, false, get_or, length, not, refl, sym, take, take_all, true, suc, ℕ, ◌++◌, ◌+◌, ◌-◌, ◌∙◌, ◌∷◌, ◌≡◌, ◌≤◌, ◌==◌, ◌&&◌, if◌then◌else◌, map, nat_lt, subst, ◌%◌, ◌*◌, ◌/◌, ◌<◌, append_assoc, drop-cons, filter, lit≤, zero, None, Option, Some, append-nil}
use Rattle.std.specs.Prelude.{decimal, codes, max, slice_index_or, slice_set}
use Rattle.std.specs.Char.{is_ascii_whitespace, is_ascii_alphanumeric, to_ascii_lowercase}
use Rattle.std.specs.List.{onto_first, prefix_len, slice_split, suffix_len, range_with_len, join_with_byte}
use Rattle.std.proofs.lemmas.List.Sums.{suffix_len_is}
use Rattle.gen1_text.specs.MemberLines.{pieces_of, trimmed, trimmed_end, trimmed_start, number_of, Spread, part_of, stat_named, with_parts}
use Rattle.std.proofs.lemmas.List.FromFn.{get_or-range_with_len, length-range_with_len}
use Rattle.gen1_tables.proofs.Named.{agree_at}
use Rattle.std.proofs.lemmas.Bool.{ltb-false, ltb-true}
use Rattle.std.proofs.lemmas.Fmt.{decimal_digit, decimal_step}
use Rattle.gen1_stats.proofs.Roots.{root-is}
use Rattle.gen1_stats.specs.Stats.{root}
use Rattle.gen1_writer.specs.Export.{ev, ended, move_line, iv_part, part}
use Rattle.gen1_tables.specs.Names.{move_name, move_names, name_at, species_name, species_names}
use Rattle.gen1_text.specs.Ids.{id_of}
use Rattle.std.proofs.lemmas.List.{map-append}
use Rattle.std.proofs.lemmas.List.Splits.{length-slice_split}
use Rattle.gen1_stats.proofs.Ranges.{map-take_more}
use Rattle.gen1_text.proofs.TextLemmas.{parts_go}

-- Texts that are a single line as they are: without a line feed, and without white space at either end.

-- the text has no such byte
abbrev pub lacks : ℕ → List ℕ → Bool
lacks c [] = true
lacks c (x ∷ xs) = not (x == c) && lacks c xs

abbrev pub begins : List ℕ → Bool
begins [] = false
begins (x ∷ xs) = not (is_ascii_whitespace x)

abbrev pub ends : List ℕ → Bool
ends [] = false
ends (x ∷ []) = not (is_ascii_whitespace x)
ends (x ∷ y ∷ xs) = ends (y ∷ xs)

pub lacks-append : (c : ℕ) (a b : List ℕ) → lacks c a ≡ true → lacks c b ≡ true → lacks c (a ++ b) ≡ true
lacks-append c [] b h k = k
lacks-append c (x ∷ a) b h k = by (not (x == c)) h (λ more. lacks-append c a b more k)
  where
    by : (t : Bool) → (t && lacks c a) ≡ true → (lacks c a ≡ true → lacks c (a ++ b) ≡ true) → (t && lacks c (a ++ b)) ≡ true
    by true h rest = rest h
    by false h rest = h

pub ends-append : (a b : List ℕ) → ends b ≡ true → ends (a ++ b) ≡ true
ends-append [] b h = h
ends-append (x ∷ []) [] h = cc
ends-append (x ∷ []) (y ∷ b) h = h
ends-append (x ∷ y ∷ a) b h = ends-append (y ∷ a) b h

untrue : (t : Bool) → not t ≡ true → t ≡ false
untrue true h = sym h
untrue false h = refl

pub last_of : (xs : List ℕ) → ends xs ≡ true → (1 ≤ length xs) × (is_ascii_whitespace (get_or xs (length xs - 1) 0) ≡ false)
last_of [] h = absurd (false_is h)
  where
    false_is : false ≡ true → ⊥
    false_is e = cc
last_of (x ∷ []) h = (omega arith, untrue (is_ascii_whitespace x) h)
last_of (x ∷ y ∷ xs) h =
    let more = last_of (y ∷ xs) h in
    let at : length (x ∷ y ∷ xs) - 1 ≡ suc (length (y ∷ xs) - 1) = omega arith in
    (omega arith, ap (λ k. is_ascii_whitespace (get_or (x ∷ y ∷ xs) k 0)) at ∙ more.1)

end_stays : (xs : List ℕ) → ends xs ≡ true → trimmed_end xs ≡ xs
end_stays xs h =
    let last = last_of xs h in
    let none : suffix_len is_ascii_whitespace xs ≡ length xs - length xs =
    suffix_len_is is_ascii_whitespace xs (length xs) 0 (omega arith) (λ k low high. absurd (omega arith)) (λ some. last.1) in
    let at : length xs - suffix_len is_ascii_whitespace xs ≡ length xs = omega (arith, none) in
    ap (λ n. take n xs) at ∙ take_all (length xs) xs (omega arith)

pub start_stays : (xs : List ℕ) → begins xs ≡ true → trimmed_start xs ≡ xs
start_stays [] h = refl
start_stays (x ∷ xs) h = ap (λ t. drop (cond t (1 + prefix_len is_ascii_whitespace xs) 0) (x ∷ xs)) (untrue (is_ascii_whitespace x) h)

pub stays : (xs : List ℕ) → begins xs ≡ true → ends xs ≡ true → trimmed xs ≡ xs
unfolding trimmed
stays xs h k = ap trimmed_end (start_stays xs h) ∙ end_stays xs k

pub whole : (c : ℕ) (xs : List ℕ) → lacks c xs ≡ true → slice_split (λ b. b == c) xs ≡ xs ∷ []
whole c [] h = refl
whole c (x ∷ xs) h = by (x == c) h (whole c xs)
  where
    by : (t : Bool) → (not t && lacks c xs) ≡ true → (lacks c xs ≡ true → slice_split (λ b. b == c) xs ≡ xs ∷ [])
        → cond t ([] ∷ slice_split (λ b. b == c) xs) (onto_first x (slice_split (λ b. b == c) xs)) ≡ (x ∷ xs) ∷ []
    by true h rest = cc
    by false h rest = ap (onto_first x) (rest h)

-- such a text is its only piece
pub one_piece : (c : ℕ) (xs : List ℕ) → lacks c xs ≡ true → begins xs ≡ true → ends xs ≡ true → pieces_of c xs ≡ xs ∷ []
unfolding pieces_of
one_piece c xs h k l = ap (map trimmed) (whole c xs h) ∙ ap (λ (x : List ℕ). x ∷ []) (stays xs k l)

-- Numbers: what holds for each of a range is computed once; the digits of one below 1,000; the EV of an experience.

-- two functions that agree on each of `size` numbers from `first` on
pub each : {C : Type 0} (f g : ℕ → C) (first size : ℕ) → map f (range_with_len first size) ≡ map g (range_with_len first size)
    → (n : ℕ) → first ≤ n → n < first + size → f n ≡ g n
each f g first size same n low high =
    let at_n : get_or (range_with_len first size) (n - first) 0 ≡ n = get_or-range_with_len first size (n - first) 0 (omega arith) ∙ omega arith in
    let size_is = length-range_with_len first size in
    subst (λ m. f m ≡ g m) at_n
    (agree_at f g (range_with_len first size) (range_with_len first size) 0 0 same (n - first) (omega arith) (omega arith))

abbrev pub two : ℕ → List ℕ
two n = if nat_lt n 10 then (48 + n) ∷ [] else (48 + n / 10) ∷ (48 + n % 10) ∷ []

abbrev pub three : ℕ → List ℕ
three n = if nat_lt n 100 then two n else (48 + n / 100) ∷ (48 + n / 10 % 10) ∷ (48 + n % 10) ∷ []

two_is : (n : ℕ) → n < 100 → decimal n ≡ two n
two_is n h = by (nat_lt n 10) refl
  where
    by : (b : Bool) → nat_lt n 10 ≡ b → decimal n ≡ (if b then (48 + n) ∷ [] else (48 + n / 10) ∷ (48 + n % 10) ∷ [])
    by true e = decimal_digit n (ltb-true n 10 e)
    by false e =
        let high = ltb-false n 10 e in
        decimal_step n high (omega arith) ∙ ap (λ (l : List ℕ). l ++ (48 + n % 10) ∷ []) (decimal_digit (n / 10) (omega arith))

pub three_is : (n : ℕ) → n < 1000 → decimal n ≡ three n
three_is n h = by (nat_lt n 100) refl
  where
    by : (b : Bool) → nat_lt n 100 ≡ b → decimal n ≡ (if b then two n else (48 + n / 100) ∷ (48 + n / 10 % 10) ∷ (48 + n % 10) ∷ [])
    by true e = two_is n (ltb-true n 100 e)
    by false e =
        let high = ltb-false n 100 e in
        let top : n / 10 / 10 ≡ n / 100 = omega arith in
        decimal_step n (omega (arith, high)) (omega arith)
        ∙ ap (λ (l : List ℕ). l ++ (48 + n % 10) ∷ [])
        (decimal_step (n / 10) (omega (arith, high)) (omega arith)
        ∙ ap (λ (l : List ℕ). l ++ (48 + n / 10 % 10) ∷ []) (decimal_digit (n / 10 / 10) (omega arith) ∙ ap (λ k. (48 + k) ∷ []) top))

pub ev_found : (exp n a b : ℕ) → a ≡ n → b ≡ n → n ≤ root exp → n < 252 → exp ≤ a * b → n ≡ ev exp
ev_found exp n a b is_a is_b low few reached =
    let most : root exp ≤ n = (root-is exp).least n (grind (arith, is_a, is_b, reached)) in omega (arith, low, most, few)

pub ev_passed : (exp n a b : ℕ) → a ≡ n → b ≡ n → n ≤ root exp → n < 252 → a * b < exp → n + 1 ≤ root exp
ev_passed exp n a b is_a is_b low few passed =
    let less : n * n < exp = grind (arith, is_a, is_b, passed) in
    by_order (root exp) n low (λ e. reached e less)
  where
    reached : root exp ≡ n → n * n < exp → ⊥
    reached e less = let most = (root-is exp).reaches (omega arith) in grind (arith, e, most, less)

    by_order : (r n : ℕ) → n ≤ r → (r ≡ n → ⊥) → n + 1 ≤ r
    by_order r n low other = omega (arith, low, other)

-- Texts that are put together a part at a time, and their pieces; the lengths of names.

pub id_short : (text : List ℕ) → length (id_of text) ≤ length text
id_short [] = omega arith
id_short (b ∷ text) = by (is_ascii_alphanumeric b) (id_short text)
  where
    by : (t : Bool) → length (id_of text) ≤ length text
        → length (map to_ascii_lowercase (cond t (b ∷ filter is_ascii_alphanumeric text) (filter is_ascii_alphanumeric text))) ≤ length (b ∷ text)
    by true h = omega (arith, h)
    by false h = omega (arith, h)

abbrev longest_of : List (List ℕ) → ℕ
longest_of [] = 0
longest_of (text ∷ texts) = max (length text) (longest_of texts)

one_of : (texts : List (List ℕ)) (n most : ℕ) → longest_of texts ≤ most → length (slice_index_or texts n []) ≤ most
one_of [] n most h = omega arith
one_of (text ∷ texts) zero most h = omega (arith, h)
one_of (text ∷ texts) (suc n) most h = one_of texts n most (omega (arith, h))

pub species_short : (n : ℕ) → length (species_name n) ≤ 12
unfolding species_name species_names name_at
species_short n = one_of species_names (n - 1) 12 (lit≤ tt)

pub move_within : (n : ℕ) → length (move_name n) ≤ 14
unfolding move_name move_names name_at
move_within n = one_of move_names (n - 1) 14 (lit≤ tt)

onto : (x : ℕ) (a b : List (List ℕ)) → 1 ≤ length a → onto_first x (a ++ b) ≡ onto_first x a ++ b
onto x [] b h = absurd (omega arith)
onto x (part ∷ a) b h = refl

-- a separator parts the pieces before it from those after it
split_join : (p : ℕ → Bool) (xs : List ℕ) (y : ℕ) (ys : List ℕ) → p y ≡ true → slice_split p (xs ++ y ∷ ys) ≡ slice_split p xs ++ slice_split p ys
split_join p [] y ys e = ap (λ b. cond b ([] ∷ slice_split p ys) (onto_first y (slice_split p ys))) e
split_join p (x ∷ xs) y ys e = by (p x) (split_join p xs y ys e)
  where
    by : (t : Bool) → slice_split p (xs ++ y ∷ ys) ≡ slice_split p xs ++ slice_split p ys
        → cond t ([] ∷ slice_split p (xs ++ y ∷ ys)) (onto_first x (slice_split p (xs ++ y ∷ ys)))
        ≡ cond t ([] ∷ slice_split p xs) (onto_first x (slice_split p xs)) ++ slice_split p ys
    by true h = ap (λ (l : List (List ℕ)). [] ∷ l) h
    by false h = ap (onto_first x) h ∙ onto x (slice_split p xs) (slice_split p ys) (omega (arith, length-slice_split p xs))

pub pieces_join : (c : ℕ) (xs ys : List ℕ) → (c == c) ≡ true → pieces_of c (xs ++ c ∷ ys) ≡ pieces_of c xs ++ pieces_of c ys
unfolding pieces_of
pieces_join c xs ys e =
    ap (map trimmed) (split_join (λ b. b == c) xs c ys e) ∙ map-append trimmed (slice_split (λ b. b == c) xs) (slice_split (λ b. b == c) ys)

-- lines that are lines: each is its only piece
abbrev pub AreLines : List (List ℕ) → Type 0
AreLines [] = Unit {0}
AreLines (line ∷ lines) = (pieces_of 10 line ≡ line ∷ []) × AreLines lines

pub lines_back : (lines : List (List ℕ)) (rest : List ℕ) → AreLines lines → pieces_of 10 (ended lines ++ rest) ≡ lines ++ pieces_of 10 rest
lines_back [] rest h = refl
lines_back (line ∷ lines) rest h =
    ap (pieces_of 10) (append_assoc line (10 ∷ ended lines) rest)
    ∙ pieces_join 10 line (ended lines ++ rest) refl
    ∙ ap (λ (l : List (List ℕ)). l ++ pieces_of 10 (ended lines ++ rest)) h.0
    ∙ ap (λ (l : List (List ℕ)). line ∷ l) (lines_back lines rest h.1)

pub lines-append : (a b : List (List ℕ)) → AreLines a → AreLines b → AreLines (a ++ b)
lines-append [] b h k = k
lines-append (line ∷ a) b h k = (h.0, lines-append a b h.1 k)

pub ended-append : (a b : List (List ℕ)) → ended (a ++ b) ≡ ended a ++ ended b
ended-append [] b = refl
ended-append (line ∷ a) b =
    ap (λ (l : List ℕ). line ++ 10 ∷ l) (ended-append a b) ∙ sym (append_assoc line (10 ∷ ended a) (ended b))

-- one more part, after the others
pub join_more : (c : ℕ) (parts : List (List ℕ)) (part : List ℕ) → 0 < length parts
    → join_with_byte c (parts ++ part ∷ []) ≡ (join_with_byte c parts ++ c ∷ []) ++ part
join_more c [] part h = absurd (omega arith)
join_more c (x ∷ []) part h = sym (append_assoc x (c ∷ []) part)
join_more c (x ∷ y ∷ parts) part h =
    ap (λ (l : List ℕ). x ++ c ∷ l) (join_more c (y ∷ parts) part (omega arith))
    ∙ sym (append_assoc x (c ∷ (join_with_byte c (y ∷ parts) ++ c ∷ [])) part)
    ∙ ap (λ (l : List ℕ). l ++ part) (sym (append_assoc x (c ∷ join_with_byte c (y ∷ parts)) (c ∷ [])))

length-front : {X : Type 0} (f : X → List ℕ) (k : ℕ) (xs : List X) → 0 < k → k < length xs → 1 ≤ length (map f (take k xs))
length-front f zero xs a b = absurd (omega arith)
length-front f (suc k) [] a b = absurd (omega arith)
length-front f (suc k) (x ∷ xs) a b = omega arith

later : {X : Type 0} (c : ℕ) (f : X → List ℕ) (xs : List X) (k : ℕ) (x : X) (text : List ℕ) → 0 < k → k < length xs
    → x ≡ get_or xs k x → text ≡ join_with_byte c (map f (take k xs))
    → text ++ c ∷ [] ++ f x ≡ join_with_byte c (map f (take (k + 1) xs))
later c f xs k x text some low is so_far =
    ap (λ (l : List ℕ). l ++ c ∷ [] ++ f x) so_far
    ∙ sym (join_more c (map f (take k xs)) (f x) (length-front f k xs some low))
    ∙ ap (join_with_byte c) (sym (map-take_more f xs k x low is))

-- the parts of the first elements of a list, and one more
pub join_next : {X : Type 0} (c : ℕ) (f : X → List ℕ) (xs : List X) (k : ℕ) (x : X) (text part more : List ℕ) → k < length xs
    → x ≡ get_or xs k x → text ≡ join_with_byte c (map f (take k xs)) → part ≡ f x → (k ≡ 0 → more ≡ text ++ part)
    → (1 ≤ k → more ≡ text ++ c ∷ [] ++ part) → more ≡ join_with_byte c (map f (take (k + 1) xs))
join_next c f [] k x text part more low is so_far one first next = absurd (omega arith)
join_next c f (y ∷ xs) zero x text part more low is so_far one first next =
    first refl ∙ ap (λ (l : List ℕ). l ++ part) so_far ∙ one ∙ ap f is
join_next c f (y ∷ xs) (suc k) x text part more low is so_far one first next =
    next (omega arith) ∙ ap (λ (l : List ℕ). text ++ c ∷ [] ++ l) one ∙ later c f (y ∷ xs) (suc k) x text (omega arith) low is so_far

cons_at : (moves : List (ℕ × ℕ)) (k : ℕ) (d : ℕ × ℕ) → k < length moves → drop k moves ≡ get_or moves k d ∷ drop (k + 1) moves
cons_at moves k d low = let next : suc k ≡ k + 1 = omega arith in drop-cons moves k d low ∙ ap (λ j. get_or moves k d ∷ drop j moves) next

-- one more line of a move, before those of the rest of a list
pub line_next : (text name new all : List ℕ) (moves : List (ℕ × ℕ)) (k : ℕ) (chosen : ℕ × ℕ) → k < length moves → chosen ≡ get_or moves k chosen
    → name ≡ move_name chosen.0 → text ++ ended (map move_line (drop k moves)) ≡ all → new ≡ text ++ codes "- " ++ name ++ codes "\n"
    → new ++ ended (map move_line (drop (k + 1) moves)) ≡ all
line_next text name new all moves k chosen low is named h made =
    let rest = ended (map move_line (drop (k + 1) moves)) in
    ap (λ (l : List ℕ). l ++ rest) made
    ∙ append_assoc (text ++ codes "- " ++ name) (codes "\n") rest
    ∙ ap (λ (l : List ℕ). l ++ 10 ∷ rest) (append_assoc text (codes "- ") name)
    ∙ append_assoc text (codes "- " ++ name) (10 ∷ rest)
    ∙ ap (λ (n : List ℕ). text ++ (codes "- " ++ n ++ 10 ∷ rest)) named
    ∙ ap (λ (l : List (ℕ × ℕ)). text ++ ended (map move_line l)) (ap (λ (x : ℕ × ℕ). x ∷ drop (k + 1) moves) is ∙ sym (cons_at moves k chosen low))
    ∙ h

-- a part that is its only piece, before a slash and at the end
pub record IsPart (p : List ℕ) : Type 0 where
  pub before : pieces_of 47 (32 ∷ (p ++ 32 ∷ [])) ≡ p ∷ []
  pub last : pieces_of 47 (32 ∷ p) ≡ p ∷ []
  pub no_feed : lacks 10 p ≡ true
  pub stops : ends p ≡ true

-- after a part, this text has these parts
abbrev pub Goes : List ℕ → List (List ℕ) → Type 0
Goes text parts = (p : List ℕ) → IsPart p → pieces_of 47 (32 ∷ (p ++ text)) ≡ p ∷ parts

pub goes_end : Goes [] []
goes_end p h = ap (λ (l : List ℕ). pieces_of 47 (32 ∷ l)) (append-nil p) ∙ h.last

pub goes_on : (q text : List ℕ) (parts : List (List ℕ)) → IsPart q → Goes text parts → Goes (32 ∷ 47 ∷ 32 ∷ (q ++ text)) (q ∷ parts)
goes_on q text parts is rest p h =
    ap (λ (l : List ℕ). pieces_of 47 (32 ∷ l)) (sym (append_assoc p (32 ∷ []) (47 ∷ 32 ∷ (q ++ text))))
    ∙ pieces_join 47 (32 ∷ (p ++ 32 ∷ [])) (32 ∷ (q ++ text)) refl
    ∙ ap (λ (l : List (List ℕ)). l ++ pieces_of 47 (32 ∷ (q ++ text))) h.before
    ∙ ap (λ (l : List (List ℕ)). p ∷ l) (rest q is)

-- the parts of a text that begins with a slash, or is empty
pub record Lists (text : List ℕ) (parts : List (List ℕ)) : Type 0 where
  pub goes : Goes text parts
  pub own : 2 ≤ length text → pieces_of 47 (drop 2 text) ≡ parts
  pub none : length text < 2 → parts ≡ []
  pub no_feed : lacks 10 text ≡ true
  pub stops : (p : List ℕ) → ends p ≡ true → ends (p ++ text) ≡ true
  pub line : 2 ≤ length text → (lacks 10 (drop 2 text) ≡ true) × (ends (drop 2 text) ≡ true)

pub lists_end : Lists [] []
lists_end = record {
  goes = goes_end;
  own = λ h. absurd (omega arith);
  none = λ h. refl;
  no_feed = refl;
  stops = λ p h. ap ends (append-nil p) ∙ h;
  line = λ h. absurd (omega arith);
}

abbrev pub iv_listed : ℕ → List ℕ → List (List ℕ)
iv_listed iv stat = if iv == 31 then [] else part iv stat ∷ []

pub lists_iv : (iv : ℕ) (stat text : List ℕ) (parts : List (List ℕ)) → IsPart (part iv stat) → Lists text parts
    → Lists (iv_part iv stat ++ text) (iv_listed iv stat ++ parts)
lists_iv iv stat text parts is rest = by (iv == 31)
  where
    clean : lacks 10 (part iv stat ++ text) ≡ true
    clean = lacks-append 10 (part iv stat) text is.no_feed rest.no_feed

    by : (t : Bool) → Lists ((if t then [] else (codes " / " ++ part iv stat)) ++ text) ((if t then [] else part iv stat ∷ []) ++ parts)
    by true = rest
    by false = record {
      goes = goes_on (part iv stat) text parts is rest.goes;
      own = λ h. rest.goes (part iv stat) is;
      none = λ h. absurd (omega arith);
      no_feed = clean;
      stops = λ p h. ap ends (sym (append_assoc p (codes " / " ++ part iv stat) text))
          ∙ rest.stops (p ++ (codes " / " ++ part iv stat)) (ends-append p (codes " / " ++ part iv stat) (ends-append (codes " / ") (part iv stat) is.stops));
      line = λ h. (clean, rest.stops (32 ∷ part iv stat) (ends-append (32 ∷ []) (part iv stat) is.stops));
    }

-- what the parts say, one after the other

pub says : (most : ℕ) (spread new : Spread) (p : List ℕ) (parts : List (List ℕ)) (stat number : ℕ) → part_of most p ≡ Some (stat, number)
    → slice_set spread stat (Some number) ≡ new → with_parts most spread (p ∷ parts) ≡ with_parts most new parts
says most spread new p parts stat number h e =
    parts_go most spread (p ∷ parts) parts p (stat, number) refl h ∙ ap (λ (s : Spread). with_parts most s parts) e

abbrev pub said : ℕ → Option ℕ
said iv = if iv == 31 then None else Some iv

pub says_iv : (iv : ℕ) (stat : List ℕ) (parts : List (List ℕ)) (k : ℕ) (front back : Spread) → part_of 31 (part iv stat) ≡ Some (k, iv)
    → slice_set (front ++ None ∷ back) k (Some iv) ≡ front ++ Some iv ∷ back
    → with_parts 31 (front ++ None ∷ back) (iv_listed iv stat ++ parts) ≡ with_parts 31 (front ++ said iv ∷ back) parts
says_iv iv stat parts k front back h e = by (iv == 31)
  where
    by : (t : Bool) → with_parts 31 (front ++ None ∷ back) ((if t then [] else part iv stat ∷ []) ++ parts)
        ≡ with_parts 31 (front ++ (if t then None else Some iv) ∷ back) parts
    by true = refl
    by false = says 31 (front ++ None ∷ back) (front ++ Some iv ∷ back) (part iv stat) parts k iv h e

-- numbers with their stats, which are computed once, with the digits of a number below 1,000 spelled out

abbrev with_stat : List ℕ → List ℕ → List ℕ
with_stat digits stat = digits ++ codes " " ++ stat

record Reads (most k : ℕ) (stat : List ℕ) (n : ℕ) (digits : List ℕ) : Type 0 where
  is : IsPart (with_stat digits stat)
  says : part_of most (with_stat digits stat) ≡ Some (k, n)

pub record IsRead (most k : ℕ) (stat : List ℕ) (n : ℕ) : Type 0 where
  pub is : IsPart (part n stat)
  pub says : part_of most (part n stat) ≡ Some (k, n)

read_at : (most size k : ℕ) (stat : List ℕ) → size ≤ 1000
    → map (λ n. pieces_of 47 (32 ∷ (with_stat (three n) stat ++ 32 ∷ []))) (range_with_len 0 size) ≡ map (λ n. with_stat (three n) stat ∷ []) (range_with_len 0 size)
    → map (λ n. pieces_of 47 (32 ∷ with_stat (three n) stat)) (range_with_len 0 size) ≡ map (λ n. with_stat (three n) stat ∷ []) (range_with_len 0 size)
    → map (λ n. lacks 10 (with_stat (three n) stat)) (range_with_len 0 size) ≡ map (λ n. true) (range_with_len 0 size)
    → map (λ n. ends (with_stat (three n) stat)) (range_with_len 0 size) ≡ map (λ n. true) (range_with_len 0 size)
    → map (λ n. part_of most (with_stat (three n) stat)) (range_with_len 0 size) ≡ map (λ n. Some (k, n)) (range_with_len 0 size)
    → (n : ℕ) → n < size → IsRead most k stat n
read_at most size k stat small before last clean stops says n low =
    let all : Reads most k stat n (decimal n) = subst (λ (digits : List ℕ). Reads most k stat n digits) (sym (three_is n (omega (arith, low, small)))) (record {
      is = record {
        before = each (λ n. pieces_of 47 (32 ∷ (with_stat (three n) stat ++ 32 ∷ []))) (λ n. with_stat (three n) stat ∷ []) 0 size before n (omega arith) (omega (arith, low));
        last = each (λ n. pieces_of 47 (32 ∷ with_stat (three n) stat)) (λ n. with_stat (three n) stat ∷ []) 0 size last n (omega arith) (omega (arith, low));
        no_feed = each (λ n. lacks 10 (with_stat (three n) stat)) (λ n. true) 0 size clean n (omega arith) (omega (arith, low));
        stops = each (λ n. ends (with_stat (three n) stat)) (λ n. true) 0 size stops n (omega arith) (omega (arith, low));
      };
      says = each (λ n. part_of most (with_stat (three n) stat)) (λ n. Some (k, n)) 0 size says n (omega arith) (omega (arith, low));
    }) in
    record { is = all.is; says = all.says }

pub ev_hp : (n : ℕ) → n < 253 → IsRead 255 0 (codes "HP") n
unfolding pieces_of trimmed part_of number_of stat_named
ev_hp n low = read_at 255 253 0 (codes "HP") (lit≤ tt) refl refl refl refl refl n low

pub ev_atk : (n : ℕ) → n < 253 → IsRead 255 1 (codes "Atk") n
unfolding pieces_of trimmed part_of number_of stat_named
ev_atk n low = read_at 255 253 1 (codes "Atk") (lit≤ tt) refl refl refl refl refl n low

pub ev_def : (n : ℕ) → n < 253 → IsRead 255 2 (codes "Def") n
unfolding pieces_of trimmed part_of number_of stat_named
ev_def n low = read_at 255 253 2 (codes "Def") (lit≤ tt) refl refl refl refl refl n low

pub ev_spa : (n : ℕ) → n < 253 → IsRead 255 3 (codes "SpA") n
unfolding pieces_of trimmed part_of number_of stat_named
ev_spa n low = read_at 255 253 3 (codes "SpA") (lit≤ tt) refl refl refl refl refl n low

pub ev_spd : (n : ℕ) → n < 253 → IsRead 255 4 (codes "SpD") n
unfolding pieces_of trimmed part_of number_of stat_named
ev_spd n low = read_at 255 253 4 (codes "SpD") (lit≤ tt) refl refl refl refl refl n low

pub ev_spe : (n : ℕ) → n < 253 → IsRead 255 5 (codes "Spe") n
unfolding pieces_of trimmed part_of number_of stat_named
ev_spe n low = read_at 255 253 5 (codes "Spe") (lit≤ tt) refl refl refl refl refl n low

pub iv_hp : (n : ℕ) → n < 32 → IsRead 31 0 (codes "HP") n
unfolding pieces_of trimmed part_of number_of stat_named
iv_hp n low = read_at 31 32 0 (codes "HP") (lit≤ tt) refl refl refl refl refl n low

pub iv_atk : (n : ℕ) → n < 32 → IsRead 31 1 (codes "Atk") n
unfolding pieces_of trimmed part_of number_of stat_named
iv_atk n low = read_at 31 32 1 (codes "Atk") (lit≤ tt) refl refl refl refl refl n low

pub iv_def : (n : ℕ) → n < 32 → IsRead 31 2 (codes "Def") n
unfolding pieces_of trimmed part_of number_of stat_named
iv_def n low = read_at 31 32 2 (codes "Def") (lit≤ tt) refl refl refl refl refl n low

pub iv_spa : (n : ℕ) → n < 32 → IsRead 31 3 (codes "SpA") n
unfolding pieces_of trimmed part_of number_of stat_named
iv_spa n low = read_at 31 32 3 (codes "SpA") (lit≤ tt) refl refl refl refl refl n low

pub iv_spd : (n : ℕ) → n < 32 → IsRead 31 4 (codes "SpD") n
unfolding pieces_of trimmed part_of number_of stat_named
iv_spd n low = read_at 31 32 4 (codes "SpD") (lit≤ tt) refl refl refl refl refl n low

pub iv_spe : (n : ℕ) → n < 32 → IsRead 31 5 (codes "Spe") n
unfolding pieces_of trimmed part_of number_of stat_named
iv_spe n low = read_at 31 32 5 (codes "Spe") (lit≤ tt) refl refl refl refl refl n low
