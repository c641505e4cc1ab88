-- The machine's list of offered choices is the set of `specs/OfferedChoices.antt`.
use Rattle.std.proofs.Common.{Bool, IsTrue, List, [], ap, append-nil, append_assoc, arith, false, get_or, inl, inr, length, length-append, nat_lt, not, refl, suc, sym, true, zero, ℕ, ◌&&◌, ◌++◌, ◌+◌, ◌-◌, ◌<◌, ◌==◌, ◌≡◌, ◌≢◌, ◌≤◌, ◌∙◌, ◌∷◌, ◌||◌, ◌⊎◌, Option, is_some, nat_le, if◌then◌else◌, map, slice_index, subst}
use Rattle.std.specs.Prelude.{◌↔◌}
use Rattle.gen1_stats.specs.declared.member.KnownMove.{KnownMove}
use Rattle.gen1_stats.specs.Members.{is_living, nobody, nothing_known, Member, is_asleep, is_frozen}
use Rattle.gen1_machine.specs.declared.side.Side.{Side}
use Rattle.gen1_machine.specs.declared.side.Choice.{Choice}
use Rattle.gen1_machine.specs.State.{conditions_in, known_in, member_at, member_in, party, Field, active_in, is_over, request_of, status_in, underway_in, State, Terms, Party}
use Rattle.gen1_machine.specs.OfferedChoices.{bars_slot, or_struggle, others_living_from, usable_from, has_no_slot_in, is_committed, moves_offered, offered, offered_for, switches_offered}
use Rattle.std.proofs.lemmas.Bool.{false≢true}
use Rattle.std.proofs.lemmas.Bool.Decides.{eqb_tells, leb_tells}
use Rattle.gen1_machine.specs.declared.side.DisabledSlot.{DisabledSlot}
use Rattle.gen1_machine.specs.declared.terms.Outcome.{Outcome}
use Rattle.gen1_machine.specs.declared.terms.Request.{Request}
use Rattle.gen1_machine.specs.Sides.{other}
use Rattle.gen1_machine.specs.Step.{is_among, same_choice}
use Rattle.gen1_offers.specs.OfferedChoices.{HasNoSlot, IsCommitted, IsOffered, IsUsable, MayChoose, MayComeOut, OffersTheSet, bides, charges, freezes, is_trapped, rages, recharges, sleeps, thrashes, traps, OffersRising}
use Rattle.gen1_layout.proofs.Words.{Parts, Within}
use Rattle.gen1_machine.specs.declared.side.Side.TheVariants.{One, Two}
use Rattle.gen1_machine.specs.Valid.{IsStarted, IsUnstarted, IsField, IsMemberUnder, IsParty}
use Rattle.gen1_layout.specs.Shows.{Packs, Stands, setting_of}
use Rattle.gen1_layout.proofs.Steps.{packed_of}
use Rattle.gen1_layout.proofs.Storing.{packed_at, within_of}
use Rattle.std.proofs.lemmas.List.Elements.{All-get_or}
use Rattle.std.proofs.lemmas.List.{map-append}
use Rattle.std.specs.List.Sorted.{IsStrictlyIncreasing}
use Rattle.gen1_machine.specs.Choices.{byte_of_choice}
use Rattle.gen1_machine.specs.declared.side.Choice.TheVariants as choices
use Rattle.gen1_machine.specs.declared.terms.Outcome.TheVariants as outcomes
use Rattle.gen1_machine.specs.declared.terms.Request.TheVariants as requests

-- Collecting choices number by number.

abbrev pub one_if : Bool → Choice → List Choice
one_if b c = if b then c ∷ [] else []

-- The choices for the numbers that pass a test, from a number on.
abbrev pub collect : (ℕ → Bool) → (ℕ → Choice) → ℕ → ℕ → List Choice
collect test make k zero = []
collect test make k (suc n) = one_if (test k) (make k) ++ collect test make (k + 1) n

collect-suc : (test : ℕ → Bool) (make : ℕ → Choice) (k n : ℕ) → collect test make k (suc n) ≡ collect test make k n ++ one_if (test (k + n)) (make (k + n))
collect-suc test make k zero =
    append-nil (one_if (test k) (make k)) ∙ ap (λ (j : ℕ). one_if (test j) (make j)) (let e : k ≡ k + 0 = omega arith in e)
collect-suc test make k (suc n) =
    ap (λ (l : List Choice). one_if (test k) (make k) ++ l) (collect-suc test make (k + 1) n)
    ∙ sym (append_assoc (one_if (test k) (make k)) (collect test make (k + 1) n) (one_if (test (k + 1 + n)) (make (k + 1 + n))))
    ∙ ap (λ (j : ℕ). collect test make k (suc n) ++ one_if (test j) (make j)) (let e : k + 1 + n ≡ k + suc n = omega arith in e)

-- One more number.
pub collect_more : (test : ℕ → Bool) (make : ℕ → Choice) (k : ℕ) → 1 ≤ k
    → collect test make 1 (k + 1 - 1) ≡ collect test make 1 (k - 1) ++ one_if (test k) (make k)
collect_more test make k low =
    let next : k + 1 - 1 ≡ suc (k - 1) = omega arith in
    let here : 1 + (k - 1) ≡ k = omega arith in
    ap (λ (n : ℕ). collect test make 1 n) next ∙ collect-suc test make 1 (k - 1)
    ∙ ap (λ (j : ℕ). collect test make 1 (k - 1) ++ one_if (test j) (make j)) here

-- Going through a list from a number on. There is nothing after its end.
module _ {A : Type 0} (d : A) (passes : A → ℕ → Bool) (make : ℕ → Choice) (from : ℕ → List A → List Choice)
    (at_nil : (k : ℕ) → from k [] ≡ [])
    (at_cons : (k : ℕ) (x : A) (xs : List A) → from k (x ∷ xs) ≡ one_if (passes x k) (make k) ++ from (k + 1) xs)
    (nothing : (k : ℕ) → passes d k ≡ false) where
  gathered : (test : ℕ → Bool) (k n : ℕ) (xs : List A) → length xs ≤ n → ((i : ℕ) → test (k + i) ≡ passes (get_or xs i d) (k + i))
      → collect test make k n ≡ from k xs
  gathered test k zero [] few same = sym (at_nil k)
  gathered test k zero (x ∷ xs) few same = absurd (omega arith)
  gathered test k (suc n) [] few same =
      let here : test k ≡ false = ap test (let e : k ≡ k + 0 = omega arith in e) ∙ same 0 ∙ nothing (k + 0) in
      rw here (gathered test (k + 1) n [] (omega arith) (λ i. ap test (let e : k + 1 + i ≡ k + suc i = omega arith in e) ∙ same (suc i) ∙ nothing (k + suc i) ∙ sym (nothing (k + 1 + i))) ∙ at_nil (k + 1) ∙ sym (at_nil k))
  gathered test k (suc n) (x ∷ xs) few same =
      let zero_more : k + 0 ≡ k = omega arith in
      let here : test k ≡ passes x k = ap test (sym zero_more) ∙ same 0 ∙ ap (passes x) zero_more in
      rw here (ap (λ (l : List Choice). one_if (passes x k) (make k) ++ l)
      (gathered test (k + 1) n xs (omega arith) (λ i. let e : k + 1 + i ≡ k + suc i = omega arith in ap test e ∙ same (suc i) ∙ ap (passes (get_or xs i d)) (sym e)))
      ∙ sym (at_cons k x xs))

pub if_front : (b : Bool) (c : Choice) (l : List Choice) → (if b then c ∷ l else l) ≡ one_if b c ++ l
if_front true c l = refl
if_front false c l = refl

-- The usable slots

abbrev pub usable_at : Side → Field → ℕ → Bool
usable_at s f slot = nat_lt 0 (known_in slot (member_in s f).moves).pp && not (bars_slot (conditions_in s f).disabled slot)

pub slots_usable : (s : Side) (f : Field) → length (member_in s f).moves ≤ 4
    → collect (usable_at s f) choices.Move 1 4 ≡ usable_from 1 (conditions_in s f).disabled (member_in s f).moves
slots_usable s f few =
    let d = (conditions_in s f).disabled in
    let moves = (member_in s f).moves in
    gathered nothing_known (λ (m : KnownMove) (k : ℕ). nat_lt 0 m.pp && not (bars_slot d k)) choices.Move (λ (k : ℕ) (ms : List KnownMove). usable_from k d ms)
    (λ k. refl) (λ k m ms. if_front (nat_lt 0 m.pp && not (bars_slot d k)) (choices.Move k) (usable_from (k + 1) d ms)) (λ k. refl)
    (usable_at s f) 1 4 moves few
    (λ i. ap (λ (j : ℕ). nat_lt 0 (get_or moves j nothing_known).pp && not (bars_slot d (1 + i))) (let e : 1 + i - 1 ≡ i = omega arith in e))

-- The members that can come out

abbrev pub comes_out : Side → Field → ℕ → ℕ → Bool
comes_out s f out place = is_living (member_at place (party s f)) && not (place == out)

pub places_living : (s : Side) (f : Field) (out : ℕ) → length (party s f).members ≤ 6
    → collect (comes_out s f out) choices.Switch 1 6 ≡ others_living_from 1 out (party s f).members
places_living s f out few =
    let members = (party s f).members in
    gathered nobody (λ (m : Member) (k : ℕ). is_living m && not (k == out)) choices.Switch (λ (k : ℕ) (ms : List Member). others_living_from k out ms)
    (λ k. refl) (λ k m ms. if_front (is_living m && not (k == out)) (choices.Switch k) (others_living_from (k + 1) out ms)) (λ k. refl)
    (comes_out s f out) 1 6 members few
    (λ i. ap (λ (j : ℕ). is_living (get_or members j nobody) && not (1 + i == out)) (let e : 1 + i - 1 ≡ i = omega arith in e))

-- One more choice, if it passes

pub collected_more : (test : ℕ → Bool) (make : ℕ → Choice) (k : ℕ) (start old new : List Choice) (holds : Bool) (choice : Choice) → 1 ≤ k
    → old ≡ start ++ collect test make 1 (k - 1) → new ≡ old ++ one_if holds choice → holds ≡ test k → choice ≡ make k
    → new ≡ start ++ collect test make 1 (k + 1 - 1)
collected_more test make k start old new holds choice low was is passes made =
    is ∙ ap (λ (b : Bool). old ++ one_if b choice) passes ∙ ap (λ (c : Choice). old ++ one_if (test k) c) made
    ∙ ap (λ (l : List Choice). l ++ one_if (test k) (make k)) was
    ∙ append_assoc start (collect test make 1 (k - 1)) (one_if (test k) (make k))
    ∙ ap (λ (l : List Choice). start ++ l) (sym (collect_more test make k low))

-- A chain of tests, of which two are made at once.
pub or_of_or : (a b c d : Bool) → (a || (b || c) || d) ≡ (a || b || c || d)
or_of_or true b c d = refl
or_of_or false b c d = refl

pub at_most_one_more : (holds : Bool) (choice : Choice) (old new : List Choice) → new ≡ old ++ one_if holds choice → length new ≤ length old + 1
at_most_one_more true choice old new is = omega (arith, simp length-append at (ap length is))
at_most_one_more false choice old new is = omega (arith, simp length-append at (ap length is))

-- One place of six is left out, that of the member that is out.
pub one_passed_over : (holds : Bool) (choice : Choice) (old new : List Choice) (place out start : ℕ) → new ≡ old ++ one_if holds choice
    → (IsTrue holds → place ≢ out) → 1 ≤ place → (place ≤ out → length old ≤ start + (place - 1)) → (out < place → length old + 1 ≤ start + (place - 1))
    → (place + 1 ≤ out → length new ≤ start + (place + 1 - 1)) × (out < place + 1 → length new + 1 ≤ start + (place + 1 - 1))
one_passed_over true choice old new place out start is apart low before behind =
    let other = apart refl in
    let len : length new ≡ length old + 1 = omega (arith, simp length-append at (ap length is)) in
    (λ h. let b = before (omega arith) in omega arith, λ h. let b = behind (omega arith) in omega arith)
one_passed_over false choice old new place out start is apart low before behind =
    let len : length new ≡ length old = omega (arith, simp length-append at (ap length is)) in
    (λ h. let b = before (omega arith) in omega arith, λ h. by (below_or out place) len)
  where
    below_or : (a b : ℕ) → (a < b) ⊎ (b ≤ a)
    below_or a b = grind arith

    by : (out < place) ⊎ (place ≤ out) → length new ≡ length old → length new + 1 ≤ start + (place + 1 - 1)
    by (inl lt) len = let b = behind lt in omega arith
    by (inr ge) len = let b = before ge in omega arith

-- A member with a usable slot need not struggle.
pub no_struggle : (l : List Choice) → (length l == 0) ≡ false → l ≡ or_struggle l
no_struggle [] e = absurd (let h : true ≡ false = e in cc)
no_struggle (c ∷ l) e = refl

-- Tests

both_true : (a b : Bool) → (a && b) ≡ true → (a ≡ true) × (b ≡ true)
both_true true true h = (refl, refl)
both_true true false h = absurd (false≢true h)
both_true false b h = absurd (false≢true h)

is_not : (a : Bool) → not a ≡ true → a ≡ false
is_not true h = absurd (false≢true h)
is_not false h = refl

same_number : (n : ℕ) → (n == n) ≡ true
same_number n = by (eqb_tells n n)
  where
    by : (((n == n) ≡ true) × (n ≡ n)) ⊎ (((n == n) ≡ false) × (n ≢ n)) → (n == n) ≡ true
    by (inl h) = h.0
    by (inr h) = absurd (h.1 refl)

pub other_number : (n k : ℕ) → n ≢ k → (n == k) ≡ false
other_number n k apart = by (eqb_tells n k)
  where
    by : (((n == k) ≡ true) × (n ≡ k)) ⊎ (((n == k) ≡ false) × (n ≢ k)) → (n == k) ≡ false
    by (inl h) = absurd (apart h.1)
    by (inr h) = h.0

at_most : (a b : ℕ) → a ≤ b → nat_le a b ≡ true
at_most a b h = by (leb_tells a b)
  where
    by : ((nat_le a b ≡ true) × (a ≤ b)) ⊎ ((nat_le a b ≡ false) × (b < a)) → nat_le a b ≡ true
    by (inl k) = k.0
    by (inr k) = absurd (omega (arith, k.1))

is_at_most : (a b : ℕ) → nat_le a b ≡ true → a ≤ b
is_at_most a b h = by (leb_tells a b)
  where
    by : ((nat_le a b ≡ true) × (a ≤ b)) ⊎ ((nat_le a b ≡ false) × (b < a)) → a ≤ b
    by (inl k) = k.1
    by (inr k) = absurd (false≢true (sym k.0 ∙ h))

pub or_no : (b : Bool) → (b || false) ≡ b
or_no true = refl
or_no false = refl

pub or_yes : (b : Bool) → (b || true) ≡ true
or_yes true = refl
or_yes false = refl

order_of : (n k : ℕ) → (n < k) ⊎ ((n ≡ k) ⊎ (k < n))
order_of n k = grind arith

or_and : (b : Bool) → ((b && true) || false) ≡ b
or_and true = refl
or_and false = refl

and_no : (b : Bool) → (b && false) ≡ false
and_no true = refl
and_no false = refl

past : {A : Type 0} (d : A) (i : ℕ) → get_or [] i d ≡ d
past d zero = refl
past d (suc i) = refl

among_append : (c : Choice) (xs ys : List Choice) → is_among c (xs ++ ys) ≡ (is_among c xs || is_among c ys)
among_append c [] ys = refl
among_append c (x ∷ xs) ys = by (same_choice c x) (among_append c xs ys)
  where
    by : (b : Bool) → is_among c (xs ++ ys) ≡ (is_among c xs || is_among c ys) → (b || is_among c (xs ++ ys)) ≡ (b || is_among c xs || is_among c ys)
    by true h = refl
    by false h = h

-- Going through a list from a number on, each element with its number

module _ {A : Type 0} (d : A) (passes : A → ℕ → Bool) (make : ℕ → Choice) (from : ℕ → List A → List Choice)
    (at_nil : (k : ℕ) → from k [] ≡ [])
    (at_cons : (k : ℕ) (x : A) (xs : List A) → from k (x ∷ xs) ≡ one_if (passes x k) (make k) ++ from (k + 1) xs) where
  among_one : (c : Choice) (k : ℕ) (x : A) (xs : List A) → is_among c (from k (x ∷ xs)) ≡ ((passes x k && same_choice c (make k)) || is_among c (from (k + 1) xs))
  among_one c k x xs =
      ap (is_among c) (at_cons k x xs) ∙ among_append c (one_if (passes x k) (make k)) (from (k + 1) xs) ∙ by (passes x k) (same_choice c (make k))
    where
      by : (b same : Bool) → (is_among c (one_if b (make k)) || is_among c (from (k + 1) xs)) ≡ ((b && same_choice c (make k)) || is_among c (from (k + 1) xs))
      by true same = ap (λ (t : Bool). t || is_among c (from (k + 1) xs)) (or_no (same_choice c (make k)))
      by false same = refl

  -- A choice of another kind isn't in it.
  among_none : (c : Choice) → ((k : ℕ) → same_choice c (make k) ≡ false) → (k : ℕ) (xs : List A) → is_among c (from k xs) ≡ false
  among_none c apart k [] = ap (is_among c) (at_nil k)
  among_none c apart k (x ∷ xs) = among_one c k x xs ∙ by (passes x k) (same_choice c (make k)) (apart k) (among_none c apart (k + 1) xs)
    where
      by : (b same : Bool) → same ≡ false → is_among c (from (k + 1) xs) ≡ false → ((b && same) || is_among c (from (k + 1) xs)) ≡ false
      by b true e h = absurd (false≢true (sym e))
      by true false e h = h
      by false false e h = h

  -- A choice of the same kind is in it exactly if the element with its number passes.
  module _ (n : ℕ) (same : (k : ℕ) → same_choice (make n) (make k) ≡ (n == k)) (nothing : passes d n ≡ false) where
    among_behind : (k : ℕ) (xs : List A) → n < k → is_among (make n) (from k xs) ≡ false
    among_behind k [] below = ap (is_among (make n)) (at_nil k)
    among_behind k (x ∷ xs) below =
        among_one (make n) k x xs ∙ ap (λ (b : Bool). (passes x k && b) || is_among (make n) (from (k + 1) xs)) (same k ∙ other_number n k (λ e. omega (arith, e)))
        ∙ rw (and_no (passes x k)) (among_behind (k + 1) xs (omega arith))

    among_at : (k : ℕ) (xs : List A) → k ≤ n → is_among (make n) (from k xs) ≡ passes (get_or xs (n - k) d) n
    among_at k [] low = ap (is_among (make n)) (at_nil k) ∙ sym nothing ∙ ap (λ (x : A). passes x n) (sym (past d (n - k)))
    among_at k (x ∷ xs) low = among_one (make n) k x xs ∙ by (order_of n k) (λ h. among_at (k + 1) xs (omega arith))
      where
        by : (n < k) ⊎ ((n ≡ k) ⊎ (k < n)) → (k < n → is_among (make n) (from (k + 1) xs) ≡ passes (get_or xs (n - (k + 1)) d) n)
            → ((passes x k && same_choice (make n) (make k)) || is_among (make n) (from (k + 1) xs)) ≡ passes (get_or (x ∷ xs) (n - k) d) n
        by (inl h) more = absurd (omega arith)
        by (inr (inl e)) more =
            let here : n - k ≡ 0 = omega (arith, e) in
            rw (same k, sym (ap (λ (j : ℕ). n == j) e) ∙ same_number n, among_behind (k + 1) xs (omega (arith, e)), here) (or_and (passes x k) ∙ ap (passes x) (sym e))
        by (inr (inr h)) more =
            let later : n - k ≡ suc (n - (k + 1)) = omega arith in
            rw (same k, other_number n k (λ e. omega (arith, e)), and_no (passes x k), later) (more h)

-- Moves and switches

abbrev pub move_passes : Option DisabledSlot → KnownMove → ℕ → Bool
move_passes disabled m k = nat_lt 0 m.pp && not (bars_slot disabled k)

abbrev pub switch_passes : ℕ → Member → ℕ → Bool
switch_passes out m k = is_living m && not (k == out)

module _ (disabled : Option DisabledSlot) where
  cons_move : (k : ℕ) (m : KnownMove) (ms : List KnownMove)
      → usable_from k disabled (m ∷ ms) ≡ one_if (move_passes disabled m k) (choices.Move k) ++ usable_from (k + 1) disabled ms
  cons_move k m ms = if_front (move_passes disabled m k) (choices.Move k) (usable_from (k + 1) disabled ms)

  usable-none : (c : Choice) → ((k : ℕ) → same_choice c (choices.Move k) ≡ false) → (ms : List KnownMove) → is_among c (usable_from 1 disabled ms) ≡ false
  usable-none c apart ms = among_none nothing_known (move_passes disabled) choices.Move (λ k l. usable_from k disabled l) (λ k. refl) cons_move c apart 1 ms

  usable-at : (slot : ℕ) (ms : List KnownMove) → 1 ≤ slot → is_among (choices.Move slot) (usable_from 1 disabled ms) ≡ move_passes disabled (known_in slot ms) slot
  usable-at slot ms low =
      among_at nothing_known (move_passes disabled) choices.Move (λ k l. usable_from k disabled l) (λ k. refl) cons_move slot (λ k. refl) refl 1 ms low

  pub usable-behind : (ms : List KnownMove) → is_among (choices.Move 0) (usable_from 1 disabled ms) ≡ false
  usable-behind ms =
      among_behind nothing_known (move_passes disabled) choices.Move (λ k l. usable_from k disabled l) (λ k. refl) cons_move 0 (λ k. refl) refl 1 ms (omega arith)

  -- If no slot passes, there is none.
  pub usable-nil : (k : ℕ) (ms : List KnownMove) → ((i : ℕ) → move_passes disabled (get_or ms i nothing_known) (k + i) ≡ false) → usable_from k disabled ms ≡ []
  usable-nil k [] none = refl
  usable-nil k (m ∷ ms) none =
      let here : move_passes disabled m k ≡ false = (let e : k ≡ k + 0 = omega arith in ap (move_passes disabled m) e) ∙ none 0 in
      let later = usable-nil (k + 1) ms (λ i. (let e : k + 1 + i ≡ k + suc i = omega arith in ap (move_passes disabled (get_or ms i nothing_known)) e) ∙ none (suc i)) in
      cons_move k m ms ∙ rw (here) later

module _ (out : ℕ) where
  cons_switch : (k : ℕ) (m : Member) (ms : List Member)
      → others_living_from k out (m ∷ ms) ≡ one_if (switch_passes out m k) (choices.Switch k) ++ others_living_from (k + 1) out ms
  cons_switch k m ms = if_front (switch_passes out m k) (choices.Switch k) (others_living_from (k + 1) out ms)

  others-none : (c : Choice) → ((k : ℕ) → same_choice c (choices.Switch k) ≡ false) → (ms : List Member) → is_among c (others_living_from 1 out ms) ≡ false
  others-none c apart ms = among_none nobody (switch_passes out) choices.Switch (λ k l. others_living_from k out l) (λ k. refl) cons_switch c apart 1 ms

  pub others-at : (place : ℕ) (ms : List Member) → 1 ≤ place
      → is_among (choices.Switch place) (others_living_from 1 out ms) ≡ switch_passes out (get_or ms (place - 1) nobody) place
  others-at place ms low =
      among_at nobody (switch_passes out) choices.Switch (λ k l. others_living_from k out l) (λ k. refl) cons_switch place (λ k. refl) refl 1 ms low

  others-behind : (ms : List Member) → is_among (choices.Switch 0) (others_living_from 1 out ms) ≡ false
  others-behind ms =
      among_behind nobody (switch_passes out) choices.Switch (λ k l. others_living_from k out l) (λ k. refl) cons_switch 0 (λ k. refl) refl 1 ms (omega arith)

-- Each condition, and its test

commits : (s : Side) (f : Field) → (is_committed (underway_in s f) ≡ true) ↔ IsCommitted s f
commits s f = (λ h. to (underway_in s f).recharge (underway_in s f).rage (is_some (underway_in s f).thrash) (underway_in s f).charging recharges rages thrashes charges h, from)
  where
    to : (a b c d : Bool) → (a ≡ true → IsCommitted s f) → (b ≡ true → IsCommitted s f) → (c ≡ true → IsCommitted s f) → (d ≡ true → IsCommitted s f)
        → (a || b || c || d) ≡ true → IsCommitted s f
    to true b c d ka kb kc kd h = ka refl
    to false true c d ka kb kc kd h = kb refl
    to false false true d ka kb kc kd h = kc refl
    to false false false true ka kb kc kd h = kd refl
    to false false false false ka kb kc kd h = absurd (false≢true h)

    second : (a b c d : Bool) → b ≡ true → (a || b || c || d) ≡ true
    second true b c d h = refl
    second false true c d h = refl
    second false false c d h = absurd (false≢true h)

    third : (a b c d : Bool) → c ≡ true → (a || b || c || d) ≡ true
    third true b c d h = refl
    third false true c d h = refl
    third false false true d h = refl
    third false false false d h = absurd (false≢true h)

    fourth : (a b c d : Bool) → d ≡ true → (a || b || c || d) ≡ true
    fourth true b c d h = refl
    fourth false true c d h = refl
    fourth false false true d h = refl
    fourth false false false true h = refl
    fourth false false false false h = absurd (false≢true h)

    from : IsCommitted s f → is_committed (underway_in s f) ≡ true
    from (recharges h) = rw (h) refl
    from (rages h) = second (underway_in s f).recharge (underway_in s f).rage (is_some (underway_in s f).thrash) (underway_in s f).charging h
    from (thrashes h) = third (underway_in s f).recharge (underway_in s f).rage (is_some (underway_in s f).thrash) (underway_in s f).charging h
    from (charges h) = fourth (underway_in s f).recharge (underway_in s f).rage (is_some (underway_in s f).thrash) (underway_in s f).charging h

slotless : (s : Side) (f : Field) → (has_no_slot_in s f ≡ true) ↔ HasNoSlot s f
slotless s f = (
  λ h. to (is_asleep (status_in s f)) (is_frozen (status_in s f)) (is_some (underway_in s f).bide) (is_some (underway_in s f).trapping)
      (is_some (underway_in (other s) f).trapping) sleeps freezes bides traps is_trapped h,
  from,
)
  where
    to : (a b c d e : Bool) → (a ≡ true → HasNoSlot s f) → (b ≡ true → HasNoSlot s f) → (c ≡ true → HasNoSlot s f) → (d ≡ true → HasNoSlot s f)
        → (e ≡ true → HasNoSlot s f) → (a || b || c || d || e) ≡ true → HasNoSlot s f
    to true b c d e ka kb kc kd ke h = ka refl
    to false true c d e ka kb kc kd ke h = kb refl
    to false false true d e ka kb kc kd ke h = kc refl
    to false false false true e ka kb kc kd ke h = kd refl
    to false false false false e ka kb kc kd ke h = ke h

    from : HasNoSlot s f → has_no_slot_in s f ≡ true
    from (sleeps h) = rw (h) refl
    from (freezes h) = rw (h, or_yes (is_asleep (status_in s f))) refl
    from (bides h) = rw (h, or_yes (is_asleep (status_in s f) || is_frozen (status_in s f))) refl
    from (traps h) = rw (h, or_yes (is_asleep (status_in s f) || is_frozen (status_in s f) || is_some (underway_in s f).bide)) refl
    from (is_trapped h) =
        rw (h) (or_yes (is_asleep (status_in s f) || is_frozen (status_in s f) || is_some (underway_in s f).bide || is_some (underway_in s f).trapping))

usable : (s : Side) (f : Field) (slot : ℕ) → 1 ≤ slot
    → (move_passes (conditions_in s f).disabled (known_in slot (member_in s f).moves) slot ≡ true) ↔ IsUsable s f slot
usable s f slot low = (
  λ h. let both = both_true (nat_lt 0 (known_in slot (member_in s f).moves).pp) (not (bars_slot (conditions_in s f).disabled slot)) h in
      record { counted = low; has_pp = is_at_most 1 (known_in slot (member_in s f).moves).pp both.0; is_free = is_not (bars_slot (conditions_in s f).disabled slot) both.1 },
  λ u. rw (at_most 1 (known_in slot (member_in s f).moves).pp u.has_pp, u.is_free) refl,
)

switch_is_offered : (s : Side) (f : Field) (place : ℕ) → (is_among (choices.Switch place) (switches_offered s f) ≡ true) ↔ MayComeOut s f place
switch_is_offered s f zero = (λ h. absurd (false≢true (sym (others-behind (active_in s f).place (party s f).members) ∙ h)), λ m. absurd (let k = m.counted in omega arith))
switch_is_offered s f (suc n) = (
  λ h. let both = both_true (is_living (member_at (suc n) (party s f))) (not (suc n == (active_in s f).place)) (sym here ∙ h) in
      record { counted = omega arith; lives = both.0; waits = λ e. false≢true (sym (is_not (suc n == (active_in s f).place) both.1) ∙ ap (λ (k : ℕ). suc n == k) (sym e) ∙ same_number (suc n)) },
  λ m. here ∙ rw (m.lives, other_number (suc n) (active_in s f).place m.waits) refl,
)
  where
    here : is_among (choices.Switch (suc n)) (switches_offered s f) ≡ switch_passes (active_in s f).place (member_at (suc n) (party s f)) (suc n)
    here = others-at (active_in s f).place (suc n) (party s f).members (omega arith)

-- By the usable moves.
struggle : (disabled : Option DisabledSlot) (ms : List KnownMove) (l : List Choice) → usable_from 1 disabled ms ≡ l
    → (is_among (choices.Move 0) (or_struggle l) ≡ true) ↔ ((slot : ℕ) → 1 ≤ slot → move_passes disabled (known_in slot ms) slot ≡ true → ⊥)
struggle disabled ms [] e = (
  λ h slot low passes. false≢true (sym (ap (is_among (choices.Move slot)) e) ∙ usable-at disabled slot ms low ∙ passes),
  λ none. refl,
)
struggle disabled ms (c ∷ l) e = (
  λ h. absurd (false≢true (sym (usable-behind disabled ms) ∙ ap (is_among (choices.Move 0)) e ∙ h)),
  λ none. absurd (filled (sym e ∙ usable-nil disabled 1 ms (λ i. fails i (move_passes disabled (get_or ms i nothing_known) (1 + i)) refl none))),
)
  where
    filled : (c ∷ l) ≡ [] → ⊥
    filled h = cc

    fails : (i : ℕ) (b : Bool) → move_passes disabled (get_or ms i nothing_known) (1 + i) ≡ b → ((slot : ℕ) → 1 ≤ slot → move_passes disabled (known_in slot ms) slot ≡ true → ⊥) → b ≡ false
    fails i false e none = refl
    fails i true e none = absurd (none (1 + i) (omega arith) ((let back : 1 + i - 1 ≡ i = omega arith in ap (λ (j : ℕ). move_passes disabled (get_or ms j nothing_known) (1 + i)) back) ∙ e))

pub usable_slot : (disabled : Option DisabledSlot) (ms : List KnownMove) (slot : ℕ) → 1 ≤ slot
    → is_among (choices.Move slot) (or_struggle (usable_from 1 disabled ms)) ≡ move_passes disabled (known_in slot ms) slot
usable_slot disabled ms slot low = by (usable_from 1 disabled ms) ∙ usable-at disabled slot ms low
  where
    by : (l : List Choice) → is_among (choices.Move slot) (or_struggle l) ≡ is_among (choices.Move slot) l
    by [] = rw (other_number slot 0 (λ e. omega (arith, e))) refl
    by (c ∷ l) = refl

-- The moves, by whether there is a choice and a slot

pub no_move : (c : Choice) → ((k : ℕ) → same_choice c (choices.Move k) ≡ false) → (s : Side) (f : Field) → is_among c (moves_offered s f) ≡ false
no_move c apart s f = by (has_no_slot_in s f) (usable_from 1 (conditions_in s f).disabled (member_in s f).moves) (usable-none (conditions_in s f).disabled c apart (member_in s f).moves)
  where
    by : (b : Bool) (l : List Choice) → is_among c l ≡ false → is_among c (if b then choices.Move 0 ∷ [] else or_struggle l) ≡ false
    by true l h = rw (apart 0) refl
    by false [] h = rw (apart 0) refl
    by false (x ∷ l) h = h

pub no_switch : (c : Choice) → ((k : ℕ) → same_choice c (choices.Switch k) ≡ false) → (s : Side) (f : Field) → is_among c (switches_offered s f) ≡ false
no_switch c apart s f = others-none (active_in s f).place c apart (party s f).members

move_zero : (s : Side) (f : Field) → (is_among (choices.Move 0) (moves_offered s f) ≡ true) ↔ (HasNoSlot s f ⊎ ((slot : ℕ) → IsUsable s f slot → ⊥))
move_zero s f = by (has_no_slot_in s f) (slotless s f)
  where
    by : (b : Bool) → (b ≡ true) ↔ HasNoSlot s f
        → (is_among (choices.Move 0) (if b then choices.Move 0 ∷ [] else or_struggle (usable_from 1 (conditions_in s f).disabled (member_in s f).moves)) ≡ true)
        ↔ (HasNoSlot s f ⊎ ((slot : ℕ) → IsUsable s f slot → ⊥))
    by true test = (λ h. inl (test.0 refl), λ h. refl)
    by false test =
        let none = struggle (conditions_in s f).disabled (member_in s f).moves (usable_from 1 (conditions_in s f).disabled (member_in s f).moves) refl in (
          λ h. inr (λ slot u. none.0 h slot u.counted ((usable s f slot u.counted).1 u)),
          λ h. none.1 (of h),
        )
      where
        of : HasNoSlot s f ⊎ ((slot : ℕ) → IsUsable s f slot → ⊥)
            → (slot : ℕ) → 1 ≤ slot → move_passes (conditions_in s f).disabled (known_in slot (member_in s f).moves) slot ≡ true → ⊥
        of (inl no_slot) slot low passes = false≢true (test.1 no_slot)
        of (inr none) slot low passes = none slot ((usable s f slot low).0 passes)

move_slot : (s : Side) (f : Field) (k : ℕ) → (is_among (choices.Move (suc k)) (moves_offered s f) ≡ true) ↔ ((HasNoSlot s f → ⊥) × IsUsable s f (suc k))
move_slot s f k = by (has_no_slot_in s f) (slotless s f)
  where
    by : (b : Bool) → (b ≡ true) ↔ HasNoSlot s f
        → (is_among (choices.Move (suc k)) (if b then choices.Move 0 ∷ [] else or_struggle (usable_from 1 (conditions_in s f).disabled (member_in s f).moves)) ≡ true)
        ↔ ((HasNoSlot s f → ⊥) × IsUsable s f (suc k))
    by true test = (λ h. absurd (false≢true (rw (other_number (suc k) 0 (λ e. omega (arith, e))) at h)), λ h. absurd (h.0 (test.0 refl)))
    by false test =
        let is = usable_slot (conditions_in s f).disabled (member_in s f).moves (suc k) (omega arith) in
        let test_of = usable s f (suc k) (omega arith) in (
          λ h. (λ n. false≢true (test.1 n), test_of.0 (sym is ∙ h)),
          λ h. is ∙ test_of.1 h.1,
        )

-- What is offered when a move is asked for

either : (a b : Bool) → b ≡ false → (a || b) ≡ a
either true b h = refl
either false b h = h

pub in_moves : (c : Choice) (s : Side) (f : Field) → is_among c (switches_offered s f) ≡ false → is_among c (moves_offered s f ++ switches_offered s f) ≡ is_among c (moves_offered s f)
in_moves c s f h = among_append c (moves_offered s f) (switches_offered s f) ∙ either (is_among c (moves_offered s f)) (is_among c (switches_offered s f)) h

pub in_switches : (c : Choice) (s : Side) (f : Field) → is_among c (moves_offered s f) ≡ false → is_among c (moves_offered s f ++ switches_offered s f) ≡ is_among c (switches_offered s f)
in_switches c s f h = among_append c (moves_offered s f) (switches_offered s f) ∙ rw (h) refl

asked_move : (s : Side) (f : Field) (c : Choice)
    → (is_among c (if is_committed (underway_in s f) then choices.Move 0 ∷ [] else moves_offered s f ++ switches_offered s f) ≡ true) ↔ MayChoose requests.Move s f c
asked_move s f c = by c (is_committed (underway_in s f)) (commits s f)
  where
    by : (c : Choice) (b : Bool) → (b ≡ true) ↔ IsCommitted s f
        → (is_among c (if b then choices.Move 0 ∷ [] else moves_offered s f ++ switches_offered s f) ≡ true) ↔ MayChoose requests.Move s f c
    by choices.Pass true test = (λ h. absurd (false≢true h), λ h. absurd h)
    by choices.Pass false test = (
      λ h. absurd (false≢true (sym (in_moves choices.Pass s f (no_switch choices.Pass (λ k. refl) s f) ∙ no_move choices.Pass (λ k. refl) s f) ∙ h)),
      λ h. absurd h,
    )
    by (choices.Switch place) true test = (λ h. absurd (false≢true h), λ h. absurd (h.0 (test.0 refl)))
    by (choices.Switch place) false test =
        let is = in_switches (choices.Switch place) s f (no_move (choices.Switch place) (λ k. refl) s f) in (
          λ h. (λ n. false≢true (test.1 n), (switch_is_offered s f place).0 (sym is ∙ h)),
          λ h. is ∙ (switch_is_offered s f place).1 h.1,
        )
    by (choices.Move zero) true test = (λ h. inl (test.0 refl), λ h. refl)
    by (choices.Move zero) false test =
        let is = in_moves (choices.Move 0) s f (no_switch (choices.Move 0) (λ k. refl) s f) in
        (λ h. inr ((move_zero s f).0 (sym is ∙ h)), λ h. is ∙ (move_zero s f).1 (of h))
      where
        of : IsCommitted s f ⊎ (HasNoSlot s f ⊎ ((slot : ℕ) → IsUsable s f slot → ⊥)) → HasNoSlot s f ⊎ ((slot : ℕ) → IsUsable s f slot → ⊥)
        of (inl n) = absurd (false≢true (test.1 n))
        of (inr h) = h
    by (choices.Move (suc k)) true test =
        (λ h. absurd (false≢true (rw (other_number (suc k) 0 (λ e. omega (arith, e))) at h)), λ h. absurd (h.0 (test.0 refl)))
    by (choices.Move (suc k)) false test =
        let is = in_moves (choices.Move (suc k)) s f (no_switch (choices.Move (suc k)) (λ k. refl) s f) in (
          λ h. (λ n. false≢true (test.1 n), ((move_slot s f k).0 (sym is ∙ h)).0, ((move_slot s f k).0 (sym is ∙ h)).1),
          λ h. is ∙ (move_slot s f k).1 (h.1, h.2),
        )

-- By the request, and by whether the battle continues

by_request : (r : Request) (s : Side) (f : Field) (c : Choice) → (is_among c (offered_for r s f) ≡ true) ↔ MayChoose r s f c
by_request requests.Move s f c = asked_move s f c
by_request requests.Pass s f choices.Pass = (λ h. tt, λ h. refl)
by_request requests.Pass s f (choices.Move k) = (λ h. absurd (false≢true h), λ h. absurd h)
by_request requests.Pass s f (choices.Switch k) = (λ h. absurd (false≢true h), λ h. absurd h)
by_request requests.Switch s f choices.Pass = (λ h. absurd (false≢true (sym (no_switch choices.Pass (λ k. refl) s f) ∙ h)), λ h. absurd h)
by_request requests.Switch s f (choices.Move k) = (λ h. absurd (false≢true (sym (no_switch (choices.Move k) (λ j. refl) s f) ∙ h)), λ h. absurd h)
by_request requests.Switch s f (choices.Switch k) = switch_is_offered s f k

pub offers_the_set : OffersTheSet
unfolding offered
offers_the_set s f c = by f.outcome refl
  where
    by : (o : Outcome) → f.outcome ≡ o → (is_among c (if is_over o then [] else offered_for (request_of s f) s f) ≡ true) ↔ IsOffered s f c
    by outcomes.Ongoing e = (λ h. (e, (by_request (request_of s f) s f c).0 h), λ h. (by_request (request_of s f) s f c).1 h.1)
    by outcomes.WinOne e = (λ h. absurd (false≢true h), λ h. absurd (let k = sym e ∙ h.0 in cc))
    by outcomes.WinTwo e = (λ h. absurd (false≢true h), λ h. absurd (let k = sym e ∙ h.0 in cc))
    by outcomes.Tie e = (λ h. absurd (false≢true h), λ h. absurd (let k = sym e ∙ h.0 in cc))
    by (outcomes.Fault n) e = (λ h. absurd (false≢true h), λ h. absurd (let k = sym e ∙ h.0 in cc))

-- Whether a choice is among those offered, without their list.

-- When a switch is asked for

pub no_pass_to_switch : (s : Side) (f : Field) → is_among choices.Pass (switches_offered s f) ≡ false
no_pass_to_switch s f = no_switch choices.Pass (λ k. refl) s f

pub no_move_to_switch : (s : Side) (f : Field) (slot : ℕ) → is_among (choices.Move slot) (switches_offered s f) ≡ false
no_move_to_switch s f slot = no_switch (choices.Move slot) (λ k. refl) s f

pub switch_offered : (s : Side) (f : Field) (place : ℕ) → 1 ≤ place
    → is_among (choices.Switch place) (switches_offered s f) ≡ (is_living (member_at place (party s f)) && not (place == (active_in s f).place))
switch_offered s f place low = others-at (active_in s f).place place (party s f).members low

-- When a move is asked for, by what leaves no choice and no slot

pub no_pass_to_move : (s : Side) (f : Field) → is_among choices.Pass (offered_for requests.Move s f) ≡ false
no_pass_to_move s f = by (is_committed (underway_in s f)) (moves_offered s f ++ switches_offered s f) (in_moves choices.Pass s f (no_switch choices.Pass (λ k. refl) s f) ∙ no_move choices.Pass (λ k. refl) s f)
  where
    by : (b : Bool) (l : List Choice) → is_among choices.Pass l ≡ false → is_among choices.Pass (if b then choices.Move 0 ∷ [] else l) ≡ false
    by true l h = refl
    by false l h = h

pub switches_out : (s : Side) (f : Field) (place : ℕ) → is_committed (underway_in s f) ≡ false
    → is_among (choices.Switch place) (offered_for requests.Move s f) ≡ is_among (choices.Switch place) (switches_offered s f)
switches_out s f place e = rw e (in_switches (choices.Switch place) s f (no_move (choices.Switch place) (λ k. refl) s f))

pub committed_slot : (s : Side) (f : Field) (slot : ℕ) → is_committed (underway_in s f) ≡ true
    → is_among (choices.Move slot) (offered_for requests.Move s f) ≡ (slot == 0)
committed_slot s f slot e = rw e (or_no (slot == 0))

pub no_slot : (s : Side) (f : Field) (slot : ℕ) → is_committed (underway_in s f) ≡ false → has_no_slot_in s f ≡ true
    → is_among (choices.Move slot) (offered_for requests.Move s f) ≡ (slot == 0)
no_slot s f slot e h = rw e (in_moves (choices.Move slot) s f (no_move_to_switch s f slot) ∙ (rw h (or_no (slot == 0))))

pub slot_zero : (s : Side) (f : Field) → is_committed (underway_in s f) ≡ false → has_no_slot_in s f ≡ false
    → is_among (choices.Move 0) (offered_for requests.Move s f) ≡ (length (usable_from 1 (conditions_in s f).disabled (member_in s f).moves) == 0)
slot_zero s f e h =
    rw e (in_moves (choices.Move 0) s f (no_move_to_switch s f 0)
    ∙ (rw h (by (usable_from 1 (conditions_in s f).disabled (member_in s f).moves) (usable-behind (conditions_in s f).disabled (member_in s f).moves))))
  where
    by : (l : List Choice) → is_among (choices.Move 0) l ≡ false → is_among (choices.Move 0) (or_struggle l) ≡ (length l == 0)
    by [] h = refl
    by (c ∷ l) h = h ∙ sym (other_number (length (c ∷ l)) 0 (λ e. cc))

pub slot_above : (s : Side) (f : Field) (slot : ℕ) → is_committed (underway_in s f) ≡ false → has_no_slot_in s f ≡ false → 1 ≤ slot
    → is_among (choices.Move slot) (offered_for requests.Move s f)
    ≡ (nat_lt 0 (known_in slot (member_in s f).moves).pp && not (bars_slot (conditions_in s f).disabled slot))
slot_above s f slot e h low =
    rw e (in_moves (choices.Move slot) s f (no_move_to_switch s f slot)
    ∙ (rw h (usable_slot (conditions_in s f).disabled (member_in s f).moves slot low)))

-- What is read of a battle between two updates, also before the first one.

pub packs_of : {p : Parts} {s : State} → Stands p s → Packs (setting_of s) p s.field
packs_of {p = p} {s = s} h = by h.valid.field
  where
    by : IsUnstarted s.terms s.field ⊎ IsStarted s.terms s.field → Packs (setting_of s) p s.field
    by (inl u) = packed_at p s h u
    by (inr v) = packed_of (within_of p s h v.field)

-- A side that is asked for a move or a switch has a member out, and so has its foe

pub asks_nothing : (side : Side) (terms : Terms) (f : Field) → IsUnstarted terms f → request_of side f ≡ requests.Pass
asks_nothing One terms f u = u.requests.one
asks_nothing Two terms f u = u.requests.two

pub within_asked : {p : Parts} {s : State} (side : Side) {r : Request} → Stands p s → request_of side s.field ≡ r → (requests.Pass ≡ r → ⊥)
    → Within (setting_of s) p s.field
within_asked {p = p} {s = s} side {r = r} h is not_pass = by h.valid.field
  where
    by : IsUnstarted s.terms s.field ⊎ IsStarted s.terms s.field → Within (setting_of s) p s.field
    by (inl u) = absurd (not_pass (sym (asks_nothing side s.terms s.field u) ∙ is))
    by (inr v) = within_of p s h v.field

pub is_over_unless : (o : Outcome) → (o ≡ outcomes.Ongoing → ⊥) → is_over o ≡ true
is_over_unless outcomes.Ongoing apart = absurd (apart refl)
is_over_unless outcomes.WinOne apart = refl
is_over_unless outcomes.WinTwo apart = refl
is_over_unless outcomes.Tie apart = refl
is_over_unless (outcomes.Fault n) apart = refl

-- The bytes of the machine's offered choices rise.

-- Numbers from low on and below high, each above the one before.
abbrev pub Rises : ℕ → ℕ → List ℕ → Type 0
Rises low high [] = low ≤ high
Rises low high (x ∷ xs) = (low ≤ x) × Rises (x + 1) high xs

wider : (low high low' high' : ℕ) (xs : List ℕ) → low' ≤ low → high ≤ high' → Rises low high xs → Rises low' high' xs
wider low high low' high' [] a b h = omega arith
wider low high low' high' (x ∷ xs) a b h = (omega (arith, h.0), wider (x + 1) high (x + 1) high' xs (omega arith) b h.1)

in_turn : (a b c : ℕ) (xs ys : List ℕ) → Rises a b xs → Rises b c ys → Rises a c (xs ++ ys)
in_turn a b c [] ys h k = wider b c a c ys h (omega arith) k
in_turn a b c (x ∷ xs) ys h k = (h.0, in_turn (x + 1) b c xs ys h.1 k)

rising_at : (low high : ℕ) (xs : List ℕ) → Rises low high xs → (k : ℕ) → suc k < length xs → slice_index xs k < slice_index xs (suc k)
rising_at low high [] h k inside = absurd (omega arith)
rising_at low high (x ∷ []) h k inside = absurd (omega arith)
rising_at low high (x ∷ y ∷ ys) h zero inside = omega (arith, h.1.0)
rising_at low high (x ∷ y ∷ ys) h (suc k) inside = rising_at (x + 1) high (y ∷ ys) h.1 k (omega arith)

increasing : (low high : ℕ) (xs : List ℕ) → Rises low high xs → IsStrictlyIncreasing xs
increasing low high xs h k inside =
    subst (λ (n : ℕ). slice_index xs k < slice_index xs n) (let e : suc k ≡ k + 1 = omega arith in e) (rising_at low high xs h k (omega arith))

usable-rise : (k : ℕ) (disabled : Option DisabledSlot) (ms : List KnownMove) → Rises (0x10 + k) (0x10 + k + length ms) (map byte_of_choice (usable_from k disabled ms))
usable-rise k disabled [] = omega arith
usable-rise k disabled (m ∷ ms) = by (move_passes disabled m k) (usable-rise (k + 1) disabled ms)
  where
    by : (b : Bool) → Rises (0x10 + (k + 1)) (0x10 + (k + 1) + length ms) (map byte_of_choice (usable_from (k + 1) disabled ms))
        → Rises (0x10 + k) (0x10 + k + length (m ∷ ms)) (map byte_of_choice (if b then choices.Move k ∷ usable_from (k + 1) disabled ms else usable_from (k + 1) disabled ms))
    by true h = (omega arith, wider _ _ (0x10 + k + 1) (0x10 + k + length (m ∷ ms)) _ (omega arith) (omega arith) h)
    by false h = wider _ _ (0x10 + k) (0x10 + k + length (m ∷ ms)) _ (omega arith) (omega arith) h

others-rise : (k out : ℕ) (ms : List Member) → Rises (0x20 + k) (0x20 + k + length ms) (map byte_of_choice (others_living_from k out ms))
others-rise k out [] = omega arith
others-rise k out (m ∷ ms) = by (switch_passes out m k) (others-rise (k + 1) out ms)
  where
    by : (b : Bool) → Rises (0x20 + (k + 1)) (0x20 + (k + 1) + length ms) (map byte_of_choice (others_living_from (k + 1) out ms))
        → Rises (0x20 + k) (0x20 + k + length (m ∷ ms)) (map byte_of_choice (if b then choices.Switch k ∷ others_living_from (k + 1) out ms else others_living_from (k + 1) out ms))
    by true h = (omega arith, wider _ _ (0x20 + k + 1) (0x20 + k + length (m ∷ ms)) _ (omega arith) (omega arith) h)
    by false h = wider _ _ (0x20 + k) (0x20 + k + length (m ∷ ms)) _ (omega arith) (omega arith) h

-- At most four moves.
moves-rise : (s : Side) (f : Field) → length (member_in s f).moves ≤ 4 → Rises 0x10 0x15 (map byte_of_choice (moves_offered s f))
moves-rise s f few = by (has_no_slot_in s f) (usable_from 1 (conditions_in s f).disabled (member_in s f).moves) (usable-rise 1 (conditions_in s f).disabled (member_in s f).moves)
  where
    by : (b : Bool) (l : List Choice) → Rises 0x11 (0x11 + length (member_in s f).moves) (map byte_of_choice l)
        → Rises 0x10 0x15 (map byte_of_choice (if b then choices.Move 0 ∷ [] else or_struggle l))
    by true l h = (omega arith, omega arith)
    by false [] h = (omega arith, omega arith)
    by false (c ∷ l) h = wider _ _ 0x10 0x15 (map byte_of_choice (c ∷ l)) (omega arith) (omega arith) h

rising : (r : Request) (s : Side) (f : Field) → length (member_in s f).moves ≤ 4 → IsStrictlyIncreasing (map byte_of_choice (offered_for r s f))
rising requests.Pass s f few = increasing 0 1 (0 ∷ []) (omega arith, omega arith)
rising requests.Switch s f few = increasing _ _ _ (others-rise 1 (active_in s f).place (party s f).members)
rising requests.Move s f few = by (is_committed (underway_in s f))
  where
    by : (b : Bool) → IsStrictlyIncreasing (map byte_of_choice (if b then choices.Move 0 ∷ [] else moves_offered s f ++ switches_offered s f))
    by true = increasing 0x10 0x11 (0x10 ∷ []) (omega arith, omega arith)
    by false =
        let switches = others-rise 1 (active_in s f).place (party s f).members in
        let bytes = map byte_of_choice (switches_offered s f) in
        let high = 0x21 + length (party s f).members in
        rw (map-append byte_of_choice (moves_offered s f) (switches_offered s f))
        (increasing 0x10 high _ (in_turn 0x10 0x15 high (map byte_of_choice (moves_offered s f)) bytes (moves-rise s f few) (wider _ _ 0x15 high bytes (omega arith) (omega arith) switches)))

-- A member that is out knows at most four moves

four_moves : (terms : Terms) (t : Party) → IsParty terms.rules t → length (member_at t.active.place t).moves ≤ 4
four_moves terms t h =
    let inside : t.active.place - 1 < length t.members = omega (arith, h.place.0, h.place.1) in
    (All-get_or (IsMemberUnder terms.rules) t.members (t.active.place - 1) nobody inside h.members.each).numbers.slots.1

pub four_in : (s : Side) (terms : Terms) (f : Field) → IsField terms f → length (member_in s f).moves ≤ 4
four_in One terms f h = four_moves terms f.one h.one
four_in Two terms f h = four_moves terms f.two h.two

pub offers_rising : OffersRising
unfolding offered
offers_rising s t h = by t.field.outcome h.field
  where
    over : IsStrictlyIncreasing []
    over k inside = absurd (omega arith)

    now : IsUnstarted t.terms t.field ⊎ IsStarted t.terms t.field → IsStrictlyIncreasing (map byte_of_choice (offered_for (request_of s t.field) s t.field))
    now (inl u) =
        subst (λ (r : Request). IsStrictlyIncreasing (map byte_of_choice (offered_for r s t.field))) (sym (asks_nothing s t.terms t.field u)) (increasing 0 1 (0 ∷ []) (omega arith, omega arith))
    now (inr v) = rising (request_of s t.field) s t.field (four_in s t.terms t.field v.field)

    by : (o : Outcome) → IsUnstarted t.terms t.field ⊎ IsStarted t.terms t.field
        → IsStrictlyIncreasing (map byte_of_choice (if is_over o then [] else offered_for (request_of s t.field) s t.field))
    by outcomes.Ongoing v = now v
    by outcomes.WinOne v = over
    by outcomes.WinTwo v = over
    by outcomes.Tie v = over
    by (outcomes.Fault n) v = over
