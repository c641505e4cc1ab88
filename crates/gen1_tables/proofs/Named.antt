-- The code's rows are those of the specification, and a number is found by its name.
use Rattle.std.proofs.Common.{◌≡◌, ◌<◌, ◌≤◌, ℕ, ◌-◌, ◌*◌, ◌/◌, nat_le, true, List, [], ◌∷◌, refl, sym, ap, ◌∙◌, map, get_or, length, arith, ◌≢◌, ◌+◌, Bool, Option, Some, None, IfSome, IsNone, MatchOption, ◌&&◌, if◌then◌else◌, cond, subst, bytes_eq, option_map, position}
use Rattle.std.proofs.lemmas.List.{get_or-map}
use Rattle.std.proofs.lemmas.Bool.{leb-true}
use Rattle.gen1_tables.specs.Species.{species_rows, species_row, types_of, base_of}
use Rattle.gen1_tables.specs.Moves.{move_rows, move_row, row_of}
use Rattle.gen1_tables.specs.declared.species.TheConstants.{SPECIES_ROWS}
use Rattle.gen1_tables.specs.declared.moves.TheConstants.{MOVE_ROWS}
use Rattle.std.specs.List.{position_from, range_with_len}
use Rattle.std.proofs.lemmas.Iterator.Adapters.{position_from-zero}
use Rattle.std.proofs.lemmas.List.FromFn.{get_or-range_with_len, length-range_with_len}
use Rattle.std.proofs.lemmas.List.Quantifiers.{position-Some}
use Rattle.std.proofs.lemmas.Slice.Eq.{bytes_eq-Decides}
use Rattle.gen1_tables.specs.Names.{name_at, place_of, species_names, species_name, species_named, move_names, move_name, move_named}
use denote.Enum.Bare.{sameb}
use Rattle.gen1_tables.specs.contracts.types.Element.{the_type}
use Rattle.gen1_tables.specs.declared.types.Element.{Element}
use Rattle.gen1_tables.specs.declared.types.Element.TheVariants.{Normal}
use Rattle.gen1_tables.specs.Types.{same_type}

-- The code's rows are those of the specification. Each table is computed once.

-- If two lists agree under two functions, they agree at each index that both have.
pub agree_at : {A B C : Type 0} (f : A → C) (g : B → C) (xs : List A) (ys : List B) (a : A) (b : B) → map f xs ≡ map g ys
    → (i : ℕ) → i < length xs → i < length ys → f (get_or xs i a) ≡ g (get_or ys i b)
agree_at f g xs ys a b same i in_xs in_ys =
    sym (get_or-map f xs i a (g b) in_xs) ∙ ap (λ zs. get_or zs i (g b)) same ∙ get_or-map g ys i b (g b) in_ys

pub move_row-at : (n : ℕ) (d : _) → 1 ≤ n → n ≤ 165 → row_of (get_or MOVE_ROWS (n - 1) d) ≡ move_row n
unfolding move_row move_rows
move_row-at n d low high = agree_at row_of (λ r. r) MOVE_ROWS move_rows d _ refl (n - 1) (omega arith) (omega arith)

pub types_of-at : (n : ℕ) (d : _) → 1 ≤ n → n ≤ 151 → (get_or SPECIES_ROWS (n - 1) d).0 ∷ (get_or SPECIES_ROWS (n - 1) d).1 ∷ [] ≡ types_of (species_row n)
unfolding species_row species_rows
types_of-at n d low high = agree_at (λ r. r.0 ∷ r.1 ∷ []) types_of SPECIES_ROWS species_rows d _ refl (n - 1) (omega arith) (omega arith)

pub base_of-at : (n : ℕ) (d : _) → 1 ≤ n → n ≤ 151 → (get_or SPECIES_ROWS (n - 1) d).2 ≡ base_of (species_row n)
unfolding species_row species_rows
base_of-at n d low high = agree_at (λ r. r.2) base_of SPECIES_ROWS species_rows d _ refl (n - 1) (omega arith) (omega arith)

-- An accuracy in 255ths is that in percent, rounded down.
pub accuracy-at : (n : ℕ) (d : _) → 1 ≤ n → n ≤ 165 → (get_or MOVE_ROWS (n - 1) d).5 ≡ (move_row n).accuracy * 255 / 100
unfolding move_row move_rows
accuracy-at n d low high = agree_at (λ r. r.5) (λ r. r.accuracy * 255 / 100) MOVE_ROWS move_rows d _ refl (n - 1) (omega arith) (omega arith)

-- A move has at most 40 PP without PP ups.
pub pp-le : (n : ℕ) (d : _) → 1 ≤ n → n ≤ 165 → (get_or MOVE_ROWS (n - 1) d).3 ≤ 40
pp-le n d low high = leb-true _ 40 (agree_at (λ r. nat_le r.3 40) (λ r. true) MOVE_ROWS MOVE_ROWS d d refl (n - 1) (omega arith) (omega arith))

position_from-map : {A B : Type 0} (p : B → Bool) (f : A → B) (i : ℕ) (xs : List A) → position_from p i (map f xs) ≡ position_from (λ x. p (f x)) i xs
position_from-map p f i [] = refl
position_from-map p f i (x ∷ xs) = ap (λ o. cond (p (f x)) (Some i) o) (position_from-map p f (i + 1) xs)

pub position-map : {A B : Type 0} (p : B → Bool) (f : A → B) (xs : List A) → position p (map f xs) ≡ position (λ x. p (f x)) xs
position-map p f xs = position_from-zero p (map f xs) ∙ position_from-map p f 0 xs ∙ sym (position_from-zero (λ x. p (f x)) xs)

-- A number from 1 to size whose name is the text.
abbrev pub IsPlace : (ℕ → List ℕ) → ℕ → List ℕ → ℕ → Type 0
IsPlace name size text n = (1 ≤ n) × (n ≤ size) × (name n ≡ text)

found_at : (names : List (List ℕ)) (size : ℕ) → length names ≡ size → (text : List ℕ) (o : Option ℕ) → position (λ name. bytes_eq name text) names ≡ o
    → IfSome (option_map (λ index. index + 1) o) (IsPlace (name_at names) size text)
unfolding name_at
found_at names size all text None e = tt
found_at names size all text (Some i) e =
    let p = position-Some (λ name. bytes_eq name text) names i [] e in
    (omega arith, omega arith, ap (λ k. get_or names k []) (omega arith) ∙ (bytes_eq-Decides (get_or names i []) text).0 p.1)

place_of-found : (names : List (List ℕ)) (size : ℕ) → length names ≡ size → (text : List ℕ) → IfSome (place_of names text) (IsPlace (name_at names) size text)
unfolding place_of
place_of-found names size all text = found_at names size all text _ refl

-- Each name of a list is found at its own place. This is computed once for each list.
place_of-name_at : (names : List (List ℕ)) (size : ℕ) → map (λ n. place_of names (name_at names n)) (range_with_len 1 size) ≡ map Some (range_with_len 1 size)
    → (n : ℕ) → 1 ≤ n → n ≤ size → place_of names (name_at names n) ≡ Some n
place_of-name_at names size each n low high =
    let at_n : get_or (range_with_len 1 size) (n - 1) 0 ≡ n = get_or-range_with_len 1 size (n - 1) 0 (omega arith) ∙ omega arith in
    let size_is = length-range_with_len 1 size in
    subst (λ m. place_of names (name_at names m) ≡ Some m) at_n
    (agree_at (λ m. place_of names (name_at names m)) Some (range_with_len 1 size) (range_with_len 1 size) 0 0 each (n - 1) (omega arith) (omega arith))

pub species_named-found : (text : List ℕ) → IfSome (species_named text) (IsPlace species_name 151 text)
unfolding species_named species_name
species_named-found text = place_of-found species_names 151 (unfold species_names in refl) text

pub species_named-species_name : (n : ℕ) → 1 ≤ n → n ≤ 151 → species_named (species_name n) ≡ Some n
unfolding species_named species_name
species_named-species_name = place_of-name_at species_names 151 (unfold species_names in unfold place_of in unfold name_at in refl)

pub move_named-found : (text : List ℕ) → IfSome (move_named text) (IsPlace move_name 165 text)
unfolding move_named move_name
move_named-found text = place_of-found move_names 165 (unfold move_names in refl) text

pub move_named-move_name : (n : ℕ) → 1 ≤ n → n ≤ 165 → move_named (move_name n) ≡ Some n
unfolding move_named move_name
move_named-move_name = place_of-name_at move_names 165 (unfold move_names in unfold place_of in unfold name_at in refl)

-- The number that `new` makes from a place in range is the place.
pub new_of : (name : ℕ → List ℕ) (size : ℕ) (text : List ℕ) (p r : Option ℕ) → IfSome p (IsPlace name size text)
    → MatchOption p (r ≡ None) (λ x. r ≡ (if nat_le 1 x && nat_le x size then Some x else None)) → r ≡ p
new_of name size text None r place made = made
new_of name size text (Some x) r place made = made ∙ grind arith

pub text_of : (name : ℕ → List ℕ) (size : ℕ) (text : List ℕ) (o : Option ℕ) → IfSome o (IsPlace name size text) → IfSome o (λ n. name n ≡ text)
text_of name size text None place = tt
text_of name size text (Some n) place = place.2

pub IsNone-none_has : (name : ℕ → List ℕ) (size : ℕ) (text : List ℕ) (o : Option ℕ) → IfSome o (IsPlace name size text)
    → ((n : ℕ) → 1 ≤ n → n ≤ size → name n ≢ text) → IsNone o
IsNone-none_has name size text None place none = refl
IsNone-none_has name size text (Some n) place none = absurd (none n place.0 place.1 place.2)

pub IsNone-Some : (o : Option ℕ) (n : ℕ) → o ≡ Some n → IsNone o → ⊥
IsNone-Some None n e none = cc
IsNone-Some (Some m) n e none = cc

-- Two types are the same exactly if the code finds them equal.

pub same-is : (t u : Element) → sameb the_type t u ≡ same_type t u
same-is Normal Normal = refl
same-is t Normal = refl
same-is t u = refl
