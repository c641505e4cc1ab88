-- A member that isn't refused is in the ranges of a member.
use Rattle.std.proofs.Common.{All, Bool, List, [], arith, false, length, map, sym, suc, take, zero, ap, get_or, ℕ, ◌<◌, ◌≡◌, ◌∷◌, ◌++◌, ◌+◌, ◌∙◌, AllPairs, None, Some, if◌then◌else◌, min, nat_le, nat_lt, refl, slice_index_or, true, ◌*◌, ◌-◌, ◌/◌, ◌≢◌, ◌≤◌, ◌||◌, ◌==◌, drop}
use Rattle.std.proofs.lemmas.Bool.{or_parts, and_parts, eqb-false, leb-true, ltb-false}
use Rattle.std.proofs.lemmas.List.{map-append, take_more, length-map, drop_more}
use Rattle.std.proofs.lemmas.List.Elements.{All-append, All-map}
use Rattle.std.specs.List.{list_any, list_all}
use Rattle.std.proofs.lemmas.Bool.Decides.{nat_tests}
use Rattle.std.proofs.lemmas.Nat.{mul-le}
use Rattle.gen1_tables.specs.Moves.{move_row, move_rows, struggle}
use Rattle.gen1_stats.specs.declared.member.KnownMove.{KnownMove}
use Rattle.gen1_stats.specs.declared.team.TeamRefusal.{TeamRefusal}
use Rattle.gen1_stats.specs.declared.team.TeamRefusal.TheVariants.{Empty}
use Rattle.gen1_stats.specs.Members.{IsBetween, IsFresh, IsKnown, IsMember, is_left_out, least_member}
use Rattle.gen1_stats.specs.Teams.{Sheet, first_failed, known_of, member_of, member_refusal, repeats, tests, first_refusal}
use Rattle.gen1_stats.specs.Stats.{full_pp}
use Rattle.std.specs.Option.{option_or}

-- What holds for each element of a list.

-- If no element passes a test, each fails it.
pub none_passes : {X : Type 0} (p : X → Bool) (xs : List X) → list_any p xs ≡ false → All (λ x. p x ≡ false) xs
none_passes p [] none k d low = absurd (omega arith)
none_passes p (x ∷ xs) none zero d low = (or_parts (p x) (list_any p xs) none).0
none_passes p (x ∷ xs) none (suc k) d low = none_passes p xs (or_parts (p x) (list_any p xs) none).1 k d (omega arith)

-- What holds for one element holds for each element of the list of that one.
pub only : {X : Type 0} (P : X → Type 0) (x : X) → P x → All P (x ∷ [])
only P x is zero d low = is
only P x is (suc k) d low = absurd (omega arith)

-- What holds for each element of a list and for one more holds for each after that one is added.
pub All-push : {X : Type 0} (P : X → Type 0) (xs ys : List X) (x : X) → ys ≡ xs ++ x ∷ [] → All P xs → P x → All P ys
All-push P xs ys x is all one = rw is (All-append P xs (x ∷ []) all (only P x one))

-- One more element of a list, under a function.
pub map-take_more : {X Y : Type 0} (f : X → Y) (xs : List X) (i : ℕ) (x : X) → i < length xs → x ≡ get_or xs i x
    → map f (take (i + 1) xs) ≡ map f (take i xs) ++ f x ∷ []
map-take_more f xs i x low is =
    ap (map f) (take_more xs i x low) ∙ map-append f (take i xs) (get_or xs i x ∷ []) ∙ ap (λ y. map f (take i xs) ++ f y ∷ []) (sym is)

-- No test of a member fails.
pub record IsAllowed (s : Sheet) : Type 0 where
  pub level : (s.level == 0 || nat_lt 100 s.level) ≡ false
  pub no_move : (length s.moves == 0) ≡ false
  pub left_out : list_any (λ chosen. is_left_out chosen.0) s.moves ≡ false
  pub struggle : list_any (λ chosen. chosen.0 == struggle) s.moves ≡ false
  pub repeated : repeats s.moves ≡ false
  pub ups : list_any (λ chosen. nat_lt 3 chosen.1) s.moves ≡ false

-- If no test has failed, neither the first nor any of the others has.
passed : (test : Bool × TeamRefusal) (more : List (Bool × TeamRefusal)) → first_failed (test ∷ more) ≡ None
    → (test.0 ≡ false) × (first_failed more ≡ None)
passed test more none = by test.0 refl none
  where
    by : (b : Bool) → test.0 ≡ b → (if b then Some test.1 else first_failed more) ≡ None
        → (test.0 ≡ false) × (first_failed more ≡ None)
    by true is none = cc
    by false is none = (is, none)

none_failed : (tests : List (Bool × TeamRefusal)) → first_failed tests ≡ None → All (λ test. test.0 ≡ false) tests
none_failed [] none k d low = absurd (omega arith)
none_failed (test ∷ more) none zero d low = (passed test more none).0
none_failed (test ∷ more) none (suc k) d low = none_failed more (passed test more none).1 k d (omega arith)

pub allowed : (place : ℕ) (s : Sheet) → member_refusal place s ≡ None → IsAllowed s
allowed place s none = let all = none_failed (tests place s) none in let d : Bool × TeamRefusal = (true, Empty) in record {
  level = all 0 d (omega arith);
  no_move = all 2 d (omega arith);
  left_out = all 3 d (omega arith);
  struggle = all 4 d (omega arith);
  repeated = all 5 d (omega arith);
  ups = all 6 d (omega arith);
}

-- The PP ups that are allowed.
pub ups_allowed : (s : Sheet) → IsAllowed s → All (λ move. move.1 ≤ 3) s.moves
ups_allowed s is k d low = ltb-false _ _ (none_passes (λ chosen. nat_lt 3 chosen.1) s.moves is.ups k d low)

-- If each element of a list passes a test, and so does the default, every index passes it.
passes_at : {X : Type 0} (p : X → Bool) (xs : List X) (i : ℕ) (d : X) → list_all p xs ≡ true → p d ≡ true
    → p (slice_index_or xs i d) ≡ true
passes_at p [] i d all default = default
passes_at p (x ∷ xs) zero d all default = (and_parts _ _ all).0
passes_at p (x ∷ xs) (suc i) d all default = passes_at p xs i d (and_parts _ _ all).1 default

-- No move has more than 40 PP, by one test over the table.
pub pp_at_most_40 : (move : ℕ) → (move_row move).pp ≤ 40
unfolding move_row
pp_at_most_40 move =
    let test : list_all (λ row. nat_le row.pp 40) move_rows ≡ true = unfold move_rows in refl in
    leb-true (move_row move).pp 40 (unfold move_row in passes_at (λ row. nat_le row.pp 40) move_rows (move - 1) _ test refl)

full_pp-le : (base ups : ℕ) → base ≤ 40 → ups ≤ 3 → full_pp base ups ≤ 63
full_pp-le base ups low few = let most : ups * min 7 (base / 5) ≤ 3 * 7 = mul-le ups (min 7 (base / 5)) 3 7 few (omega arith) in omega arith

-- Moves that don't repeat differ in pairs.
differ : (moves : List (ℕ × ℕ)) → repeats moves ≡ false → AllPairs (λ a b. a.id ≢ b.id) (map known_of moves)
differ [] none i j d before low = absurd (omega arith)
differ (move ∷ moves) none zero zero d before low = absurd (omega arith)
differ (move ∷ moves) none (suc i) zero d before low = absurd (omega arith)
differ (move ∷ moves) none zero (suc j) d before low = λ same.
    eqb-false _ _ (All-map (λ known. (known.id == move.0) ≡ false) known_of moves
    (none_passes (λ later. later.0 == move.0) moves (or_parts _ _ none).0) j d (omega arith)) (sym same)
differ (move ∷ moves) none (suc i) (suc j) d before low =
    differ moves (or_parts _ _ none).1 i j d (omega arith) (omega arith)

-- A sum of at least low, capped at 999.
capped : (low sum : ℕ) → low ≤ sum → low ≤ 999 → IsBetween low 999 (min 999 sum)
capped low sum enough small = (omega arith, omega arith)

pub member_of-ranges : (s : Sheet) → IsAllowed s → length s.moves ≤ 4 → IsMember (member_of s)
member_of-ranges s is few = record {
  level = grind (arith, nat_tests, is.level);
  max = capped 11 _ (grind (arith, nat_tests, is.level)) (omega arith);
  hp = omega arith;
  attack = capped 5 _ (omega arith) (omega arith);
  defense = capped 5 _ (omega arith) (omega arith);
  speed = capped 5 _ (omega arith) (omega arith);
  special = capped 5 _ (omega arith) (omega arith);
  slots = rw length-map (grind (arith, nat_tests, is.no_move));
  known = All-map IsKnown known_of s.moves (λ k d low. record {
    in_engine = none_passes (λ chosen. is_left_out chosen.0) s.moves is.left_out k d low;
    not_struggle = eqb-false _ _ (none_passes (λ chosen. chosen.0 == struggle) s.moves is.struggle k d low);
    pp = full_pp-le _ _ (pp_at_most_40 _) (ups_allowed s is k d low);
  });
  distinct = differ s.moves is.repeated;
}

-- Pound is a move that a member may know.
known_pound : IsKnown record { id = 1; pp = 35 }
unfolding move_row move_rows
known_pound = record { in_engine = refl; not_struggle = λ same. absurd (omega arith); pp = omega arith }

-- The least member is fresh too.
pub least_member-fresh : IsFresh least_member
least_member-fresh = record {
  member = record {
    level = (omega arith, omega arith);
    max = (omega arith, omega arith);
    hp = omega arith;
    attack = (omega arith, omega arith);
    defense = (omega arith, omega arith);
    speed = (omega arith, omega arith);
    special = (omega arith, omega arith);
    slots = (omega arith, omega arith);
    known = only IsKnown _ known_pound;
    distinct = λ i j d before low same. absurd (omega arith);
  };
  species = (omega arith, omega arith);
  moves = only (λ (k : KnownMove). IsBetween 1 165 k.id) _ (omega arith, omega arith);
  unhurt = refl;
  healthy = refl;
}

-- A member that isn't refused joins the team.

-- If a member isn't refused, the first refusal is that of the members after it.
pub first_refusal-drop : (sheets : List Sheet) (i : ℕ) (s : Sheet) → i < length sheets → s ≡ get_or sheets i s
    → member_refusal (i + 1) s ≡ None
    → first_refusal (i + 1) (drop i sheets) ≡ first_refusal (i + 1 + 1) (drop (i + 1) sheets)
first_refusal-drop sheets i s low is none =
    ap (first_refusal (i + 1)) (drop_more sheets i s low ∙ ap (λ first. first ∷ drop (i + 1) sheets) (sym is))
    ∙ ap (λ refusal. option_or refusal (first_refusal (i + 1 + 1) (drop (i + 1) sheets))) none
