-- What a packed line says, a piece at a time.
use Rattle.std.proofs.Common.{Err, List, None, Ok, Option, Some, [], add-one, ap, append-nil, append_assoc, arith, false, length, refl, take, take_all, true, ℕ, ◌++◌, ◌+◌, ◌<◌, ◌∷◌, ◌≡◌, ◌≢◌, ◌≤◌}
use Rattle.std.specs.Prelude.{nat_le, option_map, slice_set, ◌==◌}
use Rattle.std.proofs.Math.Seq.{take-suc-set}
use Rattle.std.proofs.lemmas.Bool.Decides.{nat_tests}
use Rattle.gen1_stats.specs.Teams.{Sheet}
use Rattle.gen1_text.specs.MemberLines.{with_move, behind, Spread}
use Rattle.gen1_text.specs.Packed.{all_unpacked, unpacked, each_number, number_if_any, six_numbers, with_moves}
use Rattle.gen1_text.specs.declared.fault.MemberFault.{MemberFault}
use Rattle.gen1_text.specs.declared.fault.PackedFault.{PackedFault}
use Rattle.gen1_text.specs.declared.fault.PackedFault.TheVariants.{SeventhMember}

-- numbers, and then the rest
abbrev pub with_front : Spread → Option Spread → Option Spread
with_front done rest = option_map (λ more. done ++ more) rest

front_moves : (done : Spread) (number : Option ℕ) (o : Option Spread) → with_front (done ++ number ∷ []) o ≡ with_front done (option_map (λ numbers. number ∷ numbers) o)
front_moves done number None = refl
front_moves done number (Some more) = ap Some (append_assoc done (number ∷ []) more)

pub front_none : (o : Option Spread) → with_front [] o ≡ o
front_none None = refl
front_none (Some more) = refl

pub numbers_stop : (most : ℕ) (done : Spread) (pieces others : List (List ℕ)) (piece : List ℕ) → pieces ≡ piece ∷ others → number_if_any most piece ≡ None
    → with_front done (each_number most pieces) ≡ None
unfolding each_number
numbers_stop most done pieces others piece split none = rw (split, none) refl

pub numbers_go : (most place : ℕ) (spread : Spread) (pieces others : List (List ℕ)) (piece : List ℕ) (number : Option ℕ) → pieces ≡ piece ∷ others → number_if_any most piece ≡ Some number
    → place < length spread → with_front (take (place + 1) (slice_set spread place number)) (each_number most others) ≡ with_front (take place spread) (each_number most pieces)
unfolding each_number
numbers_go most place spread pieces others piece number split some room =
    rw (add-one, take-suc-set spread place number room, split, some) (front_moves (take place spread) number (each_number most others))

pub numbers_end : (most place : ℕ) (spread : Spread) (pieces : List (List ℕ)) → pieces ≡ [] → length spread ≤ place → with_front (take place spread) (each_number most pieces) ≡ Some spread
unfolding each_number
numbers_end most place spread pieces none all = rw (none, take_all place spread all, append-nil spread) refl

pub six_numbers-other : (most : ℕ) (pieces : List (List ℕ)) → length pieces ≢ 6 → None ≡ six_numbers most pieces
unfolding six_numbers
six_numbers-other most pieces other = let test : (length pieces == 6) ≡ false = grind (arith, nat_tests) in rw test refl

pub six_numbers-six : (most : ℕ) (pieces : List (List ℕ)) → length pieces ≡ 6 → each_number most pieces ≡ six_numbers most pieces
unfolding six_numbers
six_numbers-six most pieces six = let test : (length pieces == 6) ≡ true = grind (arith, nat_tests) in rw test refl

module _ (sheet : Sheet) (pieces names : List (List ℕ)) (name : List ℕ) (split : pieces ≡ name ∷ names) where
  pub moves_skip : length name ≡ 0 → with_moves pieces sheet ≡ with_moves names sheet
  unfolding with_moves
  moves_skip empty = let test : (length name == 0) ≡ true = grind (arith, nat_tests) in rw (split, test) refl

  pub moves_stop : (fault : MemberFault) → 0 < length name → with_move name sheet ≡ Err fault → with_moves pieces sheet ≡ Err fault
  unfolding with_moves
  moves_stop fault some wrong = let test : (length name == 0) ≡ false = grind (arith, nat_tests) in rw (split, test, wrong) refl

  pub moves_go : (made : Sheet) → 0 < length name → with_move name sheet ≡ Ok made → with_moves pieces sheet ≡ with_moves names made
  unfolding with_moves
  moves_go made some right = let test : (length name == 0) ≡ false = grind (arith, nat_tests) in rw (split, test, right) refl

pub moves_end : (sheet : Sheet) (pieces : List (List ℕ)) → pieces ≡ [] → with_moves pieces sheet ≡ Ok sheet
unfolding with_moves
moves_end sheet pieces none = rw none refl

module _ (members : ℕ) (pieces texts : List (List ℕ)) (text : List ℕ) (split : pieces ≡ text ∷ texts) where
  pub all-seventh : 6 ≤ members → all_unpacked members pieces ≡ Err SeventhMember
  unfolding all_unpacked
  all-seventh full = let test : nat_le 6 members ≡ true = grind (arith, nat_tests) in rw (split, test) refl

  pub all-fault : (fault : PackedFault) → members < 6 → unpacked (members + 1) text ≡ Err fault → all_unpacked members pieces ≡ Err fault
  unfolding all_unpacked
  all-fault fault room wrong = let test : nat_le 6 members ≡ false = grind (arith, nat_tests) in rw (split, test, wrong) refl

  pub all-made : (sheet : Sheet) → members < 6 → unpacked (members + 1) text ≡ Ok sheet → all_unpacked members pieces ≡ behind (sheet ∷ []) (all_unpacked (members + 1) texts)
  unfolding all_unpacked
  all-made sheet room right = let test : nat_le 6 members ≡ false = grind (arith, nat_tests) in rw (split, test, right) refl

pub all-end : (members : ℕ) (pieces : List (List ℕ)) → pieces ≡ [] → all_unpacked members pieces ≡ Ok []
unfolding all_unpacked
all-end members pieces none = rw none refl
