-- The bytes of a side pass the test of its members exactly if they are the bytes of valid members.
use Rattle.gen1_layout.proofs.Words.{Bool, IsBetween, List, Member, [], ap, arith, false, inl, inr, known_in, length, map, nat_le, nat_tests, refl, slice_index, slice_index_or, subst, suc, sym, true, zero, ℕ, ◌∙◌}
use Rattle.std.proofs.Common.{All, AllPairs, drop, not, replicate, take, ◌≢◌, ◌%◌, ◌&&◌, ◌*◌, ◌++◌, ◌+◌, ◌-◌, ◌<◌, ◌==◌, ◌∷◌, ◌≡◌, ◌≤◌, ◌⊎◌}
use Rattle.std.proofs.lemmas.Bool.{eqb-true}
use Rattle.std.proofs.lemmas.List.{take-replicate}
use Rattle.std.proofs.lemmas.List.Elements.{All-cons, All-head, All-nil, All-replicate, All-tail}
use Rattle.gen1_stats.specs.declared.member.KnownMove.{KnownMove}
use Rattle.gen1_stats.specs.declared.member.Status.{Status}
use Rattle.gen1_stats.specs.declared.member.Status.TheVariants.{Healthy, Asleep, Poisoned, Burned, Frozen, Paralysed}
use Rattle.gen1_stats.specs.Members.{is_left_out, is_marked, IsKnown}
use Rattle.gen1_machine.specs.Rules.{bit_of, rules_of}
use Rattle.gen1_machine.specs.Layout.{high_byte, low_byte, member_block, member_blocks, status_byte}
use Rattle.gen1_machine.specs.Valid.{FallenAreHealthy, IsMemberUnder, IsMembersUnder, IsStatus}
use Rattle.gen1_layout.specs.Loading.{member_bytes, places_of, may_be_known, status_fits, PassesMember, PassesMembers, PassesMoves, PassesPlace}
use Rattle.gen1_layout.specs.LoadingLaws.{MembersStand, AreBytes, StandsForMember, StandsForMembers}
use Rattle.gen1_layout.proofs.LoadingBlocks.{bytes_from, listed, part_bytes, part_length, two_back, two_high, two_low}

-- The status

-- What a status byte and its mark represent.
record HasStatus (rules : ℕ) (byte mark : ℕ) : Type 0 where
  pub status : Status
  pub valid : IsStatus (rules_of rules) status
  pub same : byte ≡ status_byte status
  pub marked : mark ≡ bit_of (is_marked status)
  pub healthy : byte ≡ 0 → status ≡ Healthy

odd : (rules : ℕ) → rules % 2 ≡ 1 → (rules % 2 == 1) ≡ true
odd rules is = rw is refl

asleep : (rules byte mark : ℕ) → IsBetween 1 7 byte → mark ≤ 1 → (mark ≡ 1 → rules % 2 ≡ 1) → HasStatus rules byte mark
asleep rules byte zero range small explained = record {
  status = Asleep byte false;
  valid = (range, λ no. absurd (cc));
  same = refl;
  marked = refl;
  healthy = λ none. absurd (let low = range.0 in omega arith);
}
asleep rules byte (suc zero) range small explained = record {
  status = Asleep byte true;
  valid = (range, λ yes. odd rules (explained refl));
  same = refl;
  marked = refl;
  healthy = λ none. absurd (let low = range.0 in omega arith);
}
asleep rules byte (suc (suc mark)) range small explained = absurd (omega arith)

status_cases : (b : ℕ) → status_fits b ≡ true → (b ≡ 0) ⊎ (IsBetween 1 7 b ⊎ ((b ≡ 8) ⊎ ((b ≡ 16) ⊎ ((b ≡ 32) ⊎ (b ≡ 64)))))
status_cases b h = grind (arith, nat_tests)

other : (rules byte mark : ℕ) (status : Status) → (IsBetween 1 7 byte → ⊥) → IsStatus (rules_of rules) status → byte ≡ status_byte status
    → is_marked status ≡ false → (byte ≡ 0 → status ≡ Healthy) → mark ≤ 1 → (mark ≡ 1 → IsBetween 1 7 byte) → HasStatus rules byte mark
other rules byte zero status awake valid same unmarked healthy small explained =
    record { status = status; valid = valid; same = same; marked = sym (ap bit_of unmarked); healthy = healthy }
other rules byte (suc zero) status awake valid same unmarked healthy small explained = absurd (awake (explained refl))
other rules byte (suc (suc mark)) status awake valid same unmarked healthy small explained = absurd (omega arith)

awake_at : (byte n : ℕ) → byte ≡ n → (n ≡ 0) ⊎ (8 ≤ n) → IsBetween 1 7 byte → ⊥
awake_at byte n is (inl none) range = let low = range.0 in omega arith
awake_at byte n is (inr large) range = let high = range.1 in omega arith

late_status : (rules byte mark : ℕ) → (byte ≡ 16) ⊎ ((byte ≡ 32) ⊎ (byte ≡ 64)) → mark ≤ 1 → (mark ≡ 1 → IsBetween 1 7 byte) → HasStatus rules byte mark
late_status rules byte mark (inl is) small ranged =
    other rules byte mark Burned (awake_at byte 16 is (inr (omega arith))) tt is refl (λ none. absurd (omega arith)) small ranged
late_status rules byte mark (inr (inl is)) small ranged =
    other rules byte mark Frozen (awake_at byte 32 is (inr (omega arith))) tt is refl (λ none. absurd (omega arith)) small ranged
late_status rules byte mark (inr (inr is)) small ranged =
    other rules byte mark Paralysed (awake_at byte 64 is (inr (omega arith))) tt is refl (λ none. absurd (omega arith)) small ranged

status_by : (rules byte mark : ℕ) → (byte ≡ 0) ⊎ (IsBetween 1 7 byte ⊎ ((byte ≡ 8) ⊎ ((byte ≡ 16) ⊎ ((byte ≡ 32) ⊎ (byte ≡ 64)))))
    → mark ≤ 1 → (mark ≡ 1 → (rules % 2 ≡ 1) × IsBetween 1 7 byte) → HasStatus rules byte mark
status_by rules byte mark (inl is) small explained =
    other rules byte mark Healthy (awake_at byte 0 is (inl refl)) tt is refl (λ none. refl) small (λ set. (explained set).1)
status_by rules byte mark (inr (inl range)) small explained = asleep rules byte mark range small (λ set. (explained set).0)
status_by rules byte mark (inr (inr (inl is))) small explained =
    other rules byte mark Poisoned (awake_at byte 8 is (inr (omega arith))) tt is refl (λ none. absurd (omega arith)) small (λ set. (explained set).1)
status_by rules byte mark (inr (inr (inr rest))) small explained = late_status rules byte mark rest small (λ set. (explained set).1)

status_passes : (rules : ℕ) (status : Status) → IsStatus (rules_of rules) status → status_fits (status_byte status) ≡ true
status_passes rules Healthy valid = refl
status_passes rules (Asleep turns marked) valid = let high = valid.0.1 in grind (arith, nat_tests)
status_passes rules Poisoned valid = refl
status_passes rules Burned valid = refl
status_passes rules Frozen valid = refl
status_passes rules Paralysed valid = refl

bit_of-small : (b : Bool) → bit_of b ≤ 1
bit_of-small false = omega arith
bit_of-small true = omega arith

mark_explained : (rules : ℕ) (status : Status) → IsStatus (rules_of rules) status → bit_of (is_marked status) ≡ 1
    → (rules % 2 ≡ 1) × IsBetween 1 7 (status_byte status)
mark_explained rules Healthy valid is = absurd (omega arith)
mark_explained rules (Asleep turns false) valid is = absurd (omega arith)
mark_explained rules (Asleep turns true) valid is = (eqb-true _ _ (valid.1 refl), valid.0)
mark_explained rules Poisoned valid is = absurd (omega arith)
mark_explained rules Burned valid is = absurd (omega arith)
mark_explained rules Frozen valid is = absurd (omega arith)
mark_explained rules Paralysed valid is = absurd (omega arith)

-- The moves

abbrev move_of : ℕ → ℕ → KnownMove
move_of id pp = record { id = id; pp = pp }

-- The number and PP of a slot, after those of earlier slots.
abbrev SlotIs : ℕ → ℕ → List ℕ → Type 0
SlotIs id pp earlier =
    ((id ≡ 0) × (pp ≡ 0)) ⊎ ((may_be_known id ≡ true) × (pp ≤ 63) × All (λ before. (before ≢ 0) × (before ≢ id)) earlier)

abbrev Differ : KnownMove → KnownMove → Type 0
Differ a b = a.id ≢ b.id

abbrev InTable : KnownMove → Type 0
InTable k = IsBetween 1 165 k.id

record HasMoves (i1 i2 i3 i4 p1 p2 p3 p4 : ℕ) : Type 0 where
  pub moves : List KnownMove
  pub slots : IsBetween 1 4 (length moves)
  pub known : All IsKnown moves
  pub distinct : AllPairs Differ moves
  pub ids : All InTable moves
  pub id1 : i1 ≡ (known_in 1 moves).id
  pub id2 : i2 ≡ (known_in 2 moves).id
  pub id3 : i3 ≡ (known_in 3 moves).id
  pub id4 : i4 ≡ (known_in 4 moves).id
  pub pp1 : p1 ≡ (known_in 1 moves).pp
  pub pp2 : p2 ≡ (known_in 2 moves).pp
  pub pp3 : p3 ≡ (known_in 3 moves).pp
  pub pp4 : p4 ≡ (known_in 4 moves).pp

test_parts : (id : ℕ) (left : Bool) → (nat_le 1 id && nat_le id 164 && not left) ≡ true → (1 ≤ id) × (id ≤ 164) × (left ≡ false)
test_parts id false is = (grind (arith, nat_tests), grind (arith, nat_tests), refl)
test_parts id true is = absurd (grind (arith, nat_tests))

test_of : (id : ℕ) (left : Bool) → 1 ≤ id → id ≤ 164 → left ≡ false → (nat_le 1 id && nat_le id 164 && not left) ≡ true
test_of id false low high none = grind (arith, nat_tests)
test_of id true low high none = cc

knows : (id pp : ℕ) → may_be_known id ≡ true → pp ≤ 63 → IsKnown (move_of id pp)
knows id pp test few =
    let parts = test_parts id (is_left_out id) test in
    record { in_engine = parts.2; not_struggle = λ is. let high = parts.1 in omega arith; pp = few }

in_range : (id : ℕ) → may_be_known id ≡ true → IsBetween 1 165 id
in_range id test = let parts = test_parts id (is_left_out id) test in let high = parts.1 in (parts.0, omega arith)

pairs_nil : {X : Type 0} (R : X → X → Type 0) → AllPairs R []
pairs_nil R i j d before low = absurd (omega arith)

pairs_cons : {X : Type 0} (R : X → X → Type 0) (x : X) (xs : List X) → All (λ y. R x y) xs → AllPairs R xs → AllPairs R (x ∷ xs)
pairs_cons R x xs first rest zero zero d before low = absurd (omega arith)
pairs_cons R x xs first rest zero (suc j) d before low = first j d (omega arith)
pairs_cons R x xs first rest (suc i) zero d before low = absurd (omega arith)
pairs_cons R x xs first rest (suc i) (suc j) d before low = rest i j d (omega arith) (omega arith)

one : {X : Type 0} (P : X → Type 0) (a : X) → P a → All P (a ∷ [])
one P a p = All-cons P a [] p (All-nil P)

two : {X : Type 0} (P : X → Type 0) (a b : X) → P a → P b → All P (a ∷ b ∷ [])
two P a b p q = All-cons P a (b ∷ []) p (one P b q)

three : {X : Type 0} (P : X → Type 0) (a b c : X) → P a → P b → P c → All P (a ∷ b ∷ c ∷ [])
three P a b c p q r = All-cons P a (b ∷ c ∷ []) p (two P b c q r)

four : {X : Type 0} (P : X → Type 0) (a b c d : X) → P a → P b → P c → P d → All P (a ∷ b ∷ c ∷ d ∷ [])
four P a b c d p q r s = All-cons P a (b ∷ c ∷ d ∷ []) p (three P b c d q r s)

moves_of_four : (i1 i2 i3 i4 p1 p2 p3 p4 : ℕ) → may_be_known i1 ≡ true → p1 ≤ 63
    → (may_be_known i2 ≡ true) × (p2 ≤ 63) × All (λ before. (before ≢ 0) × (before ≢ i2)) (i1 ∷ [])
    → (may_be_known i3 ≡ true) × (p3 ≤ 63) × All (λ before. (before ≢ 0) × (before ≢ i3)) (i1 ∷ i2 ∷ [])
    → (may_be_known i4 ≡ true) × (p4 ≤ 63) × All (λ before. (before ≢ 0) × (before ≢ i4)) (i1 ∷ i2 ∷ i3 ∷ [])
    → HasMoves i1 i2 i3 i4 p1 p2 p3 p4
moves_of_four i1 i2 i3 i4 p1 p2 p3 p4 known1 few1 s2 s3 s4 = record {
  moves = move_of i1 p1 ∷ move_of i2 p2 ∷ move_of i3 p3 ∷ move_of i4 p4 ∷ [];
  slots = (omega arith, omega arith);
  known =
      four IsKnown (move_of i1 p1) (move_of i2 p2) (move_of i3 p3) (move_of i4 p4) (knows i1 p1 known1 few1) (knows i2 p2 s2.0 s2.1)
      (knows i3 p3 s3.0 s3.1) (knows i4 p4 s4.0 s4.1);
  distinct =
      pairs_cons Differ (move_of i1 p1) (move_of i2 p2 ∷ move_of i3 p3 ∷ move_of i4 p4 ∷ [])
      (three (Differ (move_of i1 p1)) (move_of i2 p2) (move_of i3 p3) (move_of i4 p4) (s2.2 0 0 (omega arith)).1 (s3.2 0 0 (omega arith)).1
      (s4.2 0 0 (omega arith)).1)
      (pairs_cons Differ (move_of i2 p2) (move_of i3 p3 ∷ move_of i4 p4 ∷ [])
      (two (Differ (move_of i2 p2)) (move_of i3 p3) (move_of i4 p4) (s3.2 1 0 (omega arith)).1 (s4.2 1 0 (omega arith)).1)
      (pairs_cons Differ (move_of i3 p3) (move_of i4 p4 ∷ []) (one (Differ (move_of i3 p3)) (move_of i4 p4) (s4.2 2 0 (omega arith)).1)
      (pairs_cons Differ (move_of i4 p4) [] (All-nil (Differ (move_of i4 p4))) (pairs_nil Differ))));
  ids =
      four InTable (move_of i1 p1) (move_of i2 p2) (move_of i3 p3) (move_of i4 p4) (in_range i1 known1) (in_range i2 s2.0) (in_range i3 s3.0)
      (in_range i4 s4.0);
  id1 = refl;
  id2 = refl;
  id3 = refl;
  id4 = refl;
  pp1 = refl;
  pp2 = refl;
  pp3 = refl;
  pp4 = refl;
}

moves_of_three : (i1 i2 i3 i4 p1 p2 p3 p4 : ℕ) → may_be_known i1 ≡ true → p1 ≤ 63
    → (may_be_known i2 ≡ true) × (p2 ≤ 63) × All (λ before. (before ≢ 0) × (before ≢ i2)) (i1 ∷ [])
    → (may_be_known i3 ≡ true) × (p3 ≤ 63) × All (λ before. (before ≢ 0) × (before ≢ i3)) (i1 ∷ i2 ∷ [])
    → (i4 ≡ 0) × (p4 ≡ 0) → HasMoves i1 i2 i3 i4 p1 p2 p3 p4
moves_of_three i1 i2 i3 i4 p1 p2 p3 p4 known1 few1 s2 s3 none4 = record {
  moves = move_of i1 p1 ∷ move_of i2 p2 ∷ move_of i3 p3 ∷ [];
  slots = (omega arith, omega arith);
  known =
      three IsKnown (move_of i1 p1) (move_of i2 p2) (move_of i3 p3) (knows i1 p1 known1 few1) (knows i2 p2 s2.0 s2.1) (knows i3 p3 s3.0 s3.1);
  distinct =
      pairs_cons Differ (move_of i1 p1) (move_of i2 p2 ∷ move_of i3 p3 ∷ [])
      (two (Differ (move_of i1 p1)) (move_of i2 p2) (move_of i3 p3) (s2.2 0 0 (omega arith)).1 (s3.2 0 0 (omega arith)).1)
      (pairs_cons Differ (move_of i2 p2) (move_of i3 p3 ∷ []) (one (Differ (move_of i2 p2)) (move_of i3 p3) (s3.2 1 0 (omega arith)).1)
      (pairs_cons Differ (move_of i3 p3) [] (All-nil (Differ (move_of i3 p3))) (pairs_nil Differ)));
  ids = three InTable (move_of i1 p1) (move_of i2 p2) (move_of i3 p3) (in_range i1 known1) (in_range i2 s2.0) (in_range i3 s3.0);
  id1 = refl;
  id2 = refl;
  id3 = refl;
  id4 = none4.0;
  pp1 = refl;
  pp2 = refl;
  pp3 = refl;
  pp4 = none4.1;
}

moves_of_two : (i1 i2 i3 i4 p1 p2 p3 p4 : ℕ) → may_be_known i1 ≡ true → p1 ≤ 63
    → (may_be_known i2 ≡ true) × (p2 ≤ 63) × All (λ before. (before ≢ 0) × (before ≢ i2)) (i1 ∷ []) → (i3 ≡ 0) × (p3 ≡ 0) → (i4 ≡ 0) × (p4 ≡ 0)
    → HasMoves i1 i2 i3 i4 p1 p2 p3 p4
moves_of_two i1 i2 i3 i4 p1 p2 p3 p4 known1 few1 s2 none3 none4 = record {
  moves = move_of i1 p1 ∷ move_of i2 p2 ∷ [];
  slots = (omega arith, omega arith);
  known = two IsKnown (move_of i1 p1) (move_of i2 p2) (knows i1 p1 known1 few1) (knows i2 p2 s2.0 s2.1);
  distinct =
      pairs_cons Differ (move_of i1 p1) (move_of i2 p2 ∷ []) (one (Differ (move_of i1 p1)) (move_of i2 p2) (s2.2 0 0 (omega arith)).1)
      (pairs_cons Differ (move_of i2 p2) [] (All-nil (Differ (move_of i2 p2))) (pairs_nil Differ));
  ids = two InTable (move_of i1 p1) (move_of i2 p2) (in_range i1 known1) (in_range i2 s2.0);
  id1 = refl;
  id2 = refl;
  id3 = none3.0;
  id4 = none4.0;
  pp1 = refl;
  pp2 = refl;
  pp3 = none3.1;
  pp4 = none4.1;
}

moves_of_one : (i1 i2 i3 i4 p1 p2 p3 p4 : ℕ) → may_be_known i1 ≡ true → p1 ≤ 63 → (i2 ≡ 0) × (p2 ≡ 0) → (i3 ≡ 0) × (p3 ≡ 0)
    → (i4 ≡ 0) × (p4 ≡ 0) → HasMoves i1 i2 i3 i4 p1 p2 p3 p4
moves_of_one i1 i2 i3 i4 p1 p2 p3 p4 known1 few1 none2 none3 none4 = record {
  moves = move_of i1 p1 ∷ [];
  slots = (omega arith, omega arith);
  known = one IsKnown (move_of i1 p1) (knows i1 p1 known1 few1);
  distinct = pairs_cons Differ (move_of i1 p1) [] (All-nil (Differ (move_of i1 p1))) (pairs_nil Differ);
  ids = one InTable (move_of i1 p1) (in_range i1 known1);
  id1 = refl;
  id2 = none2.0;
  id3 = none3.0;
  id4 = none4.0;
  pp1 = refl;
  pp2 = none2.1;
  pp3 = none3.1;
  pp4 = none4.1;
}

moves_of : (i1 i2 i3 i4 p1 p2 p3 p4 : ℕ) → i1 ≢ 0 → SlotIs i1 p1 [] → SlotIs i2 p2 (i1 ∷ []) → SlotIs i3 p3 (i1 ∷ i2 ∷ [])
    → SlotIs i4 p4 (i1 ∷ i2 ∷ i3 ∷ []) → HasMoves i1 i2 i3 i4 p1 p2 p3 p4
moves_of i1 i2 i3 i4 p1 p2 p3 p4 some (inl none) s2 s3 s4 = absurd (some none.0)
moves_of i1 i2 i3 i4 p1 p2 p3 p4 some (inr s1) (inl none2) (inl none3) (inl none4) =
    moves_of_one i1 i2 i3 i4 p1 p2 p3 p4 s1.0 s1.1 none2 none3 none4
moves_of i1 i2 i3 i4 p1 p2 p3 p4 some (inr s1) (inl none2) (inl none3) (inr s4) = absurd ((s4.2 1 0 (omega arith)).0 none2.0)
moves_of i1 i2 i3 i4 p1 p2 p3 p4 some (inr s1) (inl none2) (inr s3) s4 = absurd ((s3.2 1 0 (omega arith)).0 none2.0)
moves_of i1 i2 i3 i4 p1 p2 p3 p4 some (inr s1) (inr s2) (inl none3) (inl none4) =
    moves_of_two i1 i2 i3 i4 p1 p2 p3 p4 s1.0 s1.1 s2 none3 none4
moves_of i1 i2 i3 i4 p1 p2 p3 p4 some (inr s1) (inr s2) (inl none3) (inr s4) = absurd ((s4.2 2 0 (omega arith)).0 none3.0)
moves_of i1 i2 i3 i4 p1 p2 p3 p4 some (inr s1) (inr s2) (inr s3) (inl none4) =
    moves_of_three i1 i2 i3 i4 p1 p2 p3 p4 s1.0 s1.1 s2 s3 none4
moves_of i1 i2 i3 i4 p1 p2 p3 p4 some (inr s1) (inr s2) (inr s3) (inr s4) =
    moves_of_four i1 i2 i3 i4 p1 p2 p3 p4 s1.0 s1.1 s2 s3 s4

-- A member from its bytes

member_made : (rules : ℕ) (b0 b1 b2 b3 b4 b5 b6 b7 b8 b9 b10 b11 b12 b13 b14 i1 i2 i3 i4 p1 p2 p3 p4 b23 : ℕ)
    → b2 < 256 → b3 < 256 → b4 < 256 → b5 < 256 → b6 < 256 → b7 < 256 → b8 < 256 → b9 < 256 → b10 < 256 → b11 < 256 → b12 < 256 → b13 < 256
    → (status : Status) → IsStatus (rules_of rules) status → b14 ≡ status_byte status → b23 ≡ bit_of (is_marked status) → (b14 ≡ 0 → status ≡ Healthy)
    → (h : HasMoves i1 i2 i3 i4 p1 p2 p3 p4)
    → PassesMember rules (b0 ∷ b1 ∷ b2 ∷ b3 ∷ b4 ∷ b5 ∷ b6 ∷ b7 ∷ b8 ∷ b9 ∷ b10 ∷ b11 ∷ b12 ∷ b13 ∷ b14 ∷ i1 ∷ i2 ∷ i3 ∷ i4 ∷ p1 ∷ p2 ∷ p3 ∷ p4 ∷ b23 ∷ [])
    → StandsForMember (rules_of rules) (b0 ∷ b1 ∷ b2 ∷ b3 ∷ b4 ∷ b5 ∷ b6 ∷ b7 ∷ b8 ∷ b9 ∷ b10 ∷ b11 ∷ b12 ∷ b13 ∷ b14 ∷ i1 ∷ i2 ∷ i3 ∷ i4 ∷ p1 ∷ p2 ∷ p3 ∷ p4 ∷ b23 ∷ [])
member_made rules b0 b1 b2 b3 b4 b5 b6 b7 b8 b9 b10 b11 b12 b13 b14 i1 i2 i3 i4 p1 p2 p3 p4 b23 f2 f3 f4 f5 f6 f7 f8 f9 f10 f11 f12 f13 status valid same marked healthy h p = record {
  member = record {
    species = b0;
    level = b1;
    max = b2 + 256 * b3;
    hp = b4 + 256 * b5;
    attack = b6 + 256 * b7;
    defense = b8 + 256 * b9;
    speed = b10 + 256 * b11;
    special = b12 + 256 * b13;
    status = status;
    moves = h.moves;
  };
  valid = record {
    numbers = record {
      level = p.numbers.level;
      max = p.numbers.max;
      hp = p.numbers.hp;
      attack = p.stats.attack;
      defense = p.stats.defense;
      speed = p.stats.speed;
      special = p.stats.special;
      slots = h.slots;
      known = h.known;
      distinct = h.distinct;
    };
    species = p.numbers.species;
    moves = h.ids;
    status = valid;
  };
  fallen = λ none. healthy (p.status.fallen none);
  same = rw (two_low b2 b3 f2, two_high b2 b3 f2 f3, two_low b4 b5 f4, two_high b4 b5 f4 f5, two_low b6 b7 f6, two_high b6 b7 f6 f7, two_low b8 b9 f8, two_high b8 b9 f8 f9, two_low b10 b11 f10, two_high b10 b11 f10 f11, two_low b12 b13 f12, two_high b12 b13 f12 f13, same, h.id1, h.id2, h.id3, h.id4, h.pp1, h.pp2, h.pp3, h.pp4, marked) refl;
}

pub member_from : (rules : ℕ) (block : List ℕ) → length block ≡ 24 → AreBytes block → PassesMember rules block → StandsForMember (rules_of rules) block
member_from rules block long fit p =
    let b : ℕ → ℕ = λ k. slice_index block k in
    let q : PassesMember rules (bytes_from 24 0 block) = subst (PassesMember rules) (listed 24 block long) p in
    let s : HasStatus rules (b 14) (b 23) = status_by rules (b 14) (b 23) (status_cases (b 14) q.status.status) q.status.mark q.status.marked in
    let h : HasMoves (b 15) (b 16) (b 17) (b 18) (b 19) (b 20) (b 21) (b 22) =
    moves_of (b 15) (b 16) (b 17) (b 18) (b 19) (b 20) (b 21) (b 22) q.moves.some q.moves.first q.moves.second q.moves.third q.moves.fourth in
    subst (StandsForMember (rules_of rules)) (sym (listed 24 block long))
    (member_made rules (b 0) (b 1) (b 2) (b 3) (b 4) (b 5) (b 6) (b 7) (b 8) (b 9) (b 10) (b 11) (b 12) (b 13) (b 14) (b 15) (b 16) (b 17) (b 18)
    (b 19) (b 20) (b 21) (b 22) (b 23) (fit 2) (fit 3) (fit 4) (fit 5) (fit 6) (fit 7) (fit 8) (fit 9) (fit 10) (fit 11) (fit 12) (fit 13)
    s.status s.valid s.same s.marked s.healthy h q)

-- From a member to bytes

known_passes : (k : KnownMove) → IsKnown k → InTable k → may_be_known k.id ≡ true
known_passes k known range = let high = range.1 in let no : k.id ≢ 165 = known.not_struggle in
    test_of k.id (is_left_out k.id) range.0 (omega arith) known.in_engine

-- A slot that holds a move, after other moves that differ from it.
slot_passes : (k : KnownMove) (earlier : List ℕ) → IsKnown k → InTable k → All (λ before. (before ≢ 0) × (before ≢ k.id)) earlier → SlotIs k.id k.pp earlier
slot_passes k earlier known range others = inr (known_passes k known range, known.pp, others)

some_id : (k : KnownMove) → InTable k → k.id ≢ 0
some_id k range = λ none. let low = range.0 in omega arith

moves_pass : (m : Member) (moves : List KnownMove) → IsBetween 1 4 (length moves) → All IsKnown moves → AllPairs Differ moves → All InTable moves
    → PassesMoves (member_block (record m { moves = moves }))
moves_pass m [] slots known distinct ids = absurd (let low = slots.0 in omega arith)
moves_pass m (k1 ∷ []) slots known distinct ids = record {
  some = some_id k1 (ids 0 k1 (omega arith));
  first = slot_passes k1 [] (known 0 k1 (omega arith)) (ids 0 k1 (omega arith)) (All-nil (λ before. (before ≢ 0) × (before ≢ k1.id)));
  second = inl (refl, refl);
  third = inl (refl, refl);
  fourth = inl (refl, refl);
}
moves_pass m (k1 ∷ k2 ∷ []) slots known distinct ids = record {
  some = some_id k1 (ids 0 k1 (omega arith));
  first = slot_passes k1 [] (known 0 k1 (omega arith)) (ids 0 k1 (omega arith)) (All-nil (λ before. (before ≢ 0) × (before ≢ k1.id)));
  second =
      slot_passes k2 (k1.id ∷ []) (known 1 k1 (omega arith)) (ids 1 k1 (omega arith))
      (one (λ before. (before ≢ 0) × (before ≢ k2.id)) k1.id (some_id k1 (ids 0 k1 (omega arith)), distinct 0 1 k1 (omega arith) (omega arith)));
  third = inl (refl, refl);
  fourth = inl (refl, refl);
}
moves_pass m (k1 ∷ k2 ∷ k3 ∷ []) slots known distinct ids = record {
  some = some_id k1 (ids 0 k1 (omega arith));
  first = slot_passes k1 [] (known 0 k1 (omega arith)) (ids 0 k1 (omega arith)) (All-nil (λ before. (before ≢ 0) × (before ≢ k1.id)));
  second =
      slot_passes k2 (k1.id ∷ []) (known 1 k1 (omega arith)) (ids 1 k1 (omega arith))
      (one (λ before. (before ≢ 0) × (before ≢ k2.id)) k1.id (some_id k1 (ids 0 k1 (omega arith)), distinct 0 1 k1 (omega arith) (omega arith)));
  third =
      slot_passes k3 (k1.id ∷ k2.id ∷ []) (known 2 k1 (omega arith)) (ids 2 k1 (omega arith))
      (two (λ before. (before ≢ 0) × (before ≢ k3.id)) k1.id k2.id
      (some_id k1 (ids 0 k1 (omega arith)), distinct 0 2 k1 (omega arith) (omega arith))
      (some_id k2 (ids 1 k1 (omega arith)), distinct 1 2 k1 (omega arith) (omega arith)));
  fourth = inl (refl, refl);
}
moves_pass m (k1 ∷ k2 ∷ k3 ∷ k4 ∷ []) slots known distinct ids = record {
  some = some_id k1 (ids 0 k1 (omega arith));
  first = slot_passes k1 [] (known 0 k1 (omega arith)) (ids 0 k1 (omega arith)) (All-nil (λ before. (before ≢ 0) × (before ≢ k1.id)));
  second =
      slot_passes k2 (k1.id ∷ []) (known 1 k1 (omega arith)) (ids 1 k1 (omega arith))
      (one (λ before. (before ≢ 0) × (before ≢ k2.id)) k1.id (some_id k1 (ids 0 k1 (omega arith)), distinct 0 1 k1 (omega arith) (omega arith)));
  third =
      slot_passes k3 (k1.id ∷ k2.id ∷ []) (known 2 k1 (omega arith)) (ids 2 k1 (omega arith))
      (two (λ before. (before ≢ 0) × (before ≢ k3.id)) k1.id k2.id
      (some_id k1 (ids 0 k1 (omega arith)), distinct 0 2 k1 (omega arith) (omega arith))
      (some_id k2 (ids 1 k1 (omega arith)), distinct 1 2 k1 (omega arith) (omega arith)));
  fourth =
      slot_passes k4 (k1.id ∷ k2.id ∷ k3.id ∷ []) (known 3 k1 (omega arith)) (ids 3 k1 (omega arith))
      (three (λ before. (before ≢ 0) × (before ≢ k4.id)) k1.id k2.id k3.id
      (some_id k1 (ids 0 k1 (omega arith)), distinct 0 3 k1 (omega arith) (omega arith))
      (some_id k2 (ids 1 k1 (omega arith)), distinct 1 3 k1 (omega arith) (omega arith))
      (some_id k3 (ids 2 k1 (omega arith)), distinct 2 3 k1 (omega arith) (omega arith)));
}
moves_pass m (k1 ∷ k2 ∷ k3 ∷ k4 ∷ k5 ∷ more) slots known distinct ids = absurd (let high = slots.1 in omega arith)

pub member_passes : (rules : ℕ) (m : Member) → IsMemberUnder (rules_of rules) m → (m.hp ≡ 0 → m.status ≡ Healthy) → PassesMember rules (member_block m)
member_passes rules m valid fallen =
    let n = valid.numbers in
    let max_high = n.max.1 in
    let hp_high = n.hp in
    let attack_high = n.attack.1 in
    let defense_high = n.defense.1 in
    let speed_high = n.speed.1 in
    let special_high = n.special.1 in
    let max : low_byte m.max + 256 * high_byte m.max ≡ m.max = two_back m.max (omega arith) in
    let hp : low_byte m.hp + 256 * high_byte m.hp ≡ m.hp = two_back m.hp (omega arith) in
    record {
      numbers = record { species = valid.species; level = n.level; max = rw max n.max; hp = rw (max, hp) n.hp };
      stats = record {
        attack = rw (two_back m.attack (omega arith)) n.attack;
        defense = rw (two_back m.defense (omega arith)) n.defense;
        speed = rw (two_back m.speed (omega arith)) n.speed;
        special = rw (two_back m.special (omega arith)) n.special;
      };
      status = record {
        status = status_passes rules m.status valid.status;
        fallen = λ none. ap status_byte (fallen (sym hp ∙ none));
        mark = bit_of-small (is_marked m.status);
        marked = mark_explained rules m.status valid.status;
      };
      moves = moves_pass m m.moves n.slots n.known n.distinct valid.moves;
    }

-- The six places

abbrev nothing : List ℕ
nothing = replicate 24 0

-- Places after one with these bytes.
abbrev Follows : ℕ → List ℕ → List (List ℕ) → Type 0
Follows rules before [] = Unit {0}
Follows rules before (block ∷ blocks) = PassesPlace rules before block × Follows rules block blocks

abbrev AreBlocks : List (List ℕ) → Type 0
AreBlocks [] = Unit {0}
AreBlocks (block ∷ blocks) = (length block ≡ 24) × AreBytes block × AreBlocks blocks

pub all_zero : (n : ℕ) (bytes : List ℕ) → length bytes ≡ n → All (λ byte. byte ≡ 0) bytes → bytes ≡ replicate n 0
all_zero zero [] long zeros = refl
all_zero zero (byte ∷ bytes) long zeros = absurd (omega arith)
all_zero (suc n) [] long zeros = absurd (omega arith)
all_zero (suc n) (byte ∷ bytes) long zeros =
    let first : byte ≡ 0 = All-head (λ byte. byte ≡ 0) byte bytes zeros in
    let rest = all_zero n bytes (omega arith) (All-tail (λ byte. byte ≡ 0) byte bytes zeros) in
    rw (first, rest) refl

none_follows : (rules : ℕ) (before : List ℕ) (blocks : List (List ℕ)) → slice_index before 0 ≡ 0 → AreBlocks blocks → Follows rules before blocks
    → blocks ≡ replicate (length blocks) nothing
none_follows rules before [] none are follow = refl
none_follows rules before (block ∷ blocks) none are (inl zeros, rest) =
    let same : block ≡ nothing = all_zero 24 block are.0 zeros in
    ap (λ b. b ∷ blocks) same ∙ ap (λ bs. nothing ∷ bs) (none_follows rules block blocks (ap (λ b. slice_index b 0) same) are.2 rest)
none_follows rules before (block ∷ blocks) none are (inr member, rest) = absurd (member.1 none)

record Followers (rules : ℕ) (blocks : List (List ℕ)) : Type 0 where
  pub members : List Member
  pub few : length members ≤ length blocks
  pub valid : All (IsMemberUnder (rules_of rules)) members
  pub fallen : FallenAreHealthy members
  pub same : blocks ≡ take (length blocks) (map member_block members ++ replicate 6 nothing)

followers : (rules : ℕ) (before : List ℕ) (blocks : List (List ℕ)) → length blocks ≤ 5 → AreBlocks blocks → Follows rules before blocks → Followers rules blocks
followers rules before [] few are follow = record {
  members = [];
  few = omega arith;
  valid = All-nil (IsMemberUnder (rules_of rules));
  fallen = All-nil (λ (m : Member). m.hp ≡ 0 → m.status ≡ Healthy);
  same = refl;
}
followers rules before (block ∷ blocks) few are (inl zeros, rest) =
    let same : block ≡ nothing = all_zero 24 block are.0 zeros in
    record {
      members = [];
      few = omega arith;
      valid = All-nil (IsMemberUnder (rules_of rules));
      fallen = All-nil (λ (m : Member). m.hp ≡ 0 → m.status ≡ Healthy);
      same =
          ap (λ b. b ∷ blocks) same ∙ ap (λ bs. nothing ∷ bs) (none_follows rules block blocks (ap (λ b. slice_index b 0) same) are.2 rest)
          ∙ sym (take-replicate (length (block ∷ blocks)) 6 nothing (omega arith));
    }
followers rules before (block ∷ blocks) few are (inr member, rest) =
    let m = member_from rules block are.0 are.1 member.0 in
    let more = followers rules block blocks (omega arith) are.2 rest in
    record {
      members = m.member ∷ more.members;
      few = let less = more.few in omega arith;
      valid = All-cons (IsMemberUnder (rules_of rules)) m.member more.members m.valid more.valid;
      fallen = All-cons (λ (m : Member). m.hp ≡ 0 → m.status ≡ Healthy) m.member more.members m.fallen more.fallen;
      same = ap (λ b. b ∷ blocks) m.same ∙ ap (λ bs. member_block m.member ∷ bs) more.same;
    }

members_from : (rules : ℕ) (side : List ℕ) → length side ≡ 180 → AreBytes side → PassesMembers rules side → StandsForMembers (rules_of rules) side
members_from rules side long fit p =
    let first = member_from rules (member_bytes 1 side) (part_length 0 24 side (omega arith)) (part_bytes 0 24 side fit) p.first in
    let more : Followers rules (member_bytes 2 side ∷ member_bytes 3 side ∷ member_bytes 4 side ∷ member_bytes 5 side ∷ member_bytes 6 side ∷ []) =
    followers rules (member_bytes 1 side) (member_bytes 2 side ∷ member_bytes 3 side ∷ member_bytes 4 side ∷ member_bytes 5 side ∷ member_bytes 6 side ∷ [])
    (omega arith) (
      part_length 24 24 side (omega arith),
      part_bytes 24 24 side fit,
      (
        part_length 48 24 side (omega arith),
        part_bytes 48 24 side fit,
        (
          part_length 72 24 side (omega arith),
          part_bytes 72 24 side fit,
          (
            part_length 96 24 side (omega arith),
            part_bytes 96 24 side fit,
            (part_length 120 24 side (omega arith), part_bytes 120 24 side fit, tt),
          ),
        ),
      ),
    )
    (p.others 2 (omega arith) (omega arith), (p.others 3 (omega arith) (omega arith), (p.others 4 (omega arith) (omega arith), (p.others 5 (omega arith) (omega arith), (p.others 6 (omega arith) (omega arith), tt)))))
    in
    record {
      members = first.member ∷ more.members;
      valid = record {
        size = (omega arith, let few = more.few in omega arith);
        each = All-cons (IsMemberUnder (rules_of rules)) first.member more.members first.valid more.valid;
      };
      fallen = All-cons (λ (m : Member). m.hp ≡ 0 → m.status ≡ Healthy) first.member more.members first.fallen more.fallen;
      same =
          ap (λ b. b ∷ member_bytes 2 side ∷ member_bytes 3 side ∷ member_bytes 4 side ∷ member_bytes 5 side ∷ member_bytes 6 side ∷ []) first.same
          ∙ ap (λ bs. member_block first.member ∷ bs) more.same;
    }

-- From members to bytes

nothing_follows : (rules : ℕ) (before : List ℕ) (n : ℕ) → Follows rules before (replicate n nothing)
nothing_follows rules before zero = tt
nothing_follows rules before (suc n) = (inl (All-replicate (λ byte. byte ≡ 0) 24 0 refl), nothing_follows rules nothing n)

follow_back : (rules n : ℕ) (before : List ℕ) (members : List Member) → n ≤ 6 → slice_index before 0 ≢ 0
    → All (IsMemberUnder (rules_of rules)) members → FallenAreHealthy members
    → Follows rules before (take n (map member_block members ++ replicate 6 nothing))
follow_back rules zero before members few some valid fallen = tt
follow_back rules (suc n) before [] few some valid fallen =
    subst (Follows rules before) (sym (take-replicate (suc n) 6 nothing few)) (nothing_follows rules before (suc n))
follow_back rules (suc n) before (m ∷ members) few some valid fallen =
    let first = All-head (IsMemberUnder (rules_of rules)) m members valid in
    let low = first.species.0 in (
      inr (member_passes rules m first (All-head (λ (m : Member). m.hp ≡ 0 → m.status ≡ Healthy) m members fallen), some),
      follow_back rules n (member_block m) members (omega arith) (λ none. omega arith)
          (All-tail (IsMemberUnder (rules_of rules)) m members valid)
          (All-tail (λ (m : Member). m.hp ≡ 0 → m.status ≡ Healthy) m members fallen),
    )

two_to_six : (P : ℕ → Type 0) → P 2 → P 3 → P 4 → P 5 → P 6 → (place : ℕ) → 2 ≤ place → place < 7 → P place
two_to_six P p2 p3 p4 p5 p6 zero low high = absurd (omega arith)
two_to_six P p2 p3 p4 p5 p6 (suc zero) low high = absurd (omega arith)
two_to_six P p2 p3 p4 p5 p6 (suc (suc zero)) low high = p2
two_to_six P p2 p3 p4 p5 p6 (suc (suc (suc zero))) low high = p3
two_to_six P p2 p3 p4 p5 p6 (suc (suc (suc (suc zero)))) low high = p4
two_to_six P p2 p3 p4 p5 p6 (suc (suc (suc (suc (suc zero))))) low high = p5
two_to_six P p2 p3 p4 p5 p6 (suc (suc (suc (suc (suc (suc zero)))))) low high = p6
two_to_six P p2 p3 p4 p5 p6 (suc (suc (suc (suc (suc (suc (suc more))))))) low high = absurd (omega arith)

members_back : (rules : ℕ) (side : List ℕ) (members : List Member) → IsMembersUnder (rules_of rules) members → FallenAreHealthy members
    → places_of side ≡ member_blocks members → PassesMembers rules side
members_back rules side [] valid fallen same = absurd (let low = valid.size.0 in omega arith)
members_back rules side (m ∷ members) valid fallen same =
    let one = All-head (IsMemberUnder (rules_of rules)) m members valid.each in
    let low = one.species.0 in
    let first : member_bytes 1 side ≡ member_block m = ap (λ (blocks : List (List ℕ)). slice_index_or blocks 0 []) same in
    let some : slice_index (member_bytes 1 side) 0 ≢ 0 = λ none. let zero_is : m.species ≡ 0 = sym (ap (λ b. slice_index b 0) first) ∙ none in omega arith in
    let f = subst (Follows rules (member_bytes 1 side)) (sym (ap (λ (blocks : List (List ℕ)). drop 1 blocks) same))
    (follow_back rules 5 (member_bytes 1 side) members (omega arith) some (All-tail (IsMemberUnder (rules_of rules)) m members valid.each)
    (All-tail (λ (m : Member). m.hp ≡ 0 → m.status ≡ Healthy) m members fallen)) in
    record {
      first =
          subst (PassesMember rules) (sym first)
          (member_passes rules m one (All-head (λ (m : Member). m.hp ≡ 0 → m.status ≡ Healthy) m members fallen));
      others =
          two_to_six (λ place. PassesPlace rules (member_bytes (place - 1) side) (member_bytes place side)) f.0 f.1.0 f.1.1.0 f.1.1.1.0
          f.1.1.1.1.0;
    }

pub members_law : MembersStand
members_law rules side long fit = (members_from rules side long fit, λ s. members_back rules side s.members s.valid s.fallen s.same)
