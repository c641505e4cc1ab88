-- The slots of the foe's members that have appeared: each place is in its own slot.
use Rattle.std.proofs.Common.{[], Bool, List, None, Some, ap, arith, false, get_or, get_or-set_same, if◌then◌else◌, inl, inr, length, length-set, nat_le, refl, replicate, slice_set, subst, suc, sym, true, true≢false, zero, ℕ, ◌<◌, ◌&&◌, ◌==◌, ◌∙◌, ◌∷◌, ◌≡◌, ◌≢◌, ◌≤◌, ◌⊎◌, ◌||◌}
use Rattle.std.specs.Prelude.{nat_lt, unwrap_or}
use Rattle.std.specs.List.{AllByRecursion, list_any, position, position_or_len}
use Rattle.std.proofs.lemmas.Bool.{lt-ltb}
use Rattle.std.proofs.lemmas.Bool.Decides.{eqb_tells, leb_tells}
use Rattle.std.proofs.lemmas.Grind.{get_or_default_zero}
use Rattle.std.proofs.lemmas.List.{get_or-set_other}
use Rattle.std.proofs.lemmas.List.Quantifiers.{position-Some}
use Rattle.std.proofs.lemmas.List.Sums.{fails_before_first, position_or_len_is}
use Rattle.std.proofs.lemmas.Map.Keys.{IsDistinct-from_apart}
use Rattle.std.proofs.lemmas.Map.Steps.{length-le_from_distinct_below}
use Rattle.gen1_machine.specs.declared.event.Event.{Event}
use Rattle.gen1_machine.specs.declared.event.Event.TheVariants as events
use Rattle.gen1_machine.specs.declared.side.Side.{Side}
use Rattle.gen1_machine.specs.Numbers.{side_number}
use Rattle.gen1_events.specs.Fields.{IsEvent}
use Rattle.gen1_player.specs.declared.teller.HpForm.{HpForm}
use Rattle.gen1_player.specs.declared.teller.HpForm.TheVariants.{Bar, Exact, Hundredths}
use Rattle.gen1_player.specs.declared.teller.Teller.{Teller}
use Rattle.gen1_player.specs.Telling.{form_number, appears, is_own, is_place, meets, meets_all, slot_of, IsInSlot, IsTeller}

differ : (a b : ℕ) → a ≢ b → (a == b) ≡ false
differ a b z = by (eqb_tells a b)
  where
    by : (((a == b) ≡ true) × (a ≡ b)) ⊎ (((a == b) ≡ false) × (a ≢ b)) → (a == b) ≡ false
    by (inl e) = absurd (z e.1)
    by (inr e) = e.0

alike : (a b : ℕ) → a ≡ b → (a == b) ≡ true
alike a b z = by (eqb_tells a b)
  where
    by : (((a == b) ≡ true) × (a ≡ b)) ⊎ (((a == b) ≡ false) × (a ≢ b)) → (a == b) ≡ true
    by (inl e) = e.0
    by (inr e) = absurd (e.1 z)

or-true : (a : Bool) → (a || true) ≡ true
or-true true = refl
or-true false = refl

is_place-same : (p q : ℕ) → q ≡ p → is_place p q ≡ true
is_place-same p q e = ap (λ (b : Bool). b || (q == 0)) (alike q p e)

is_place-other : (p q : ℕ) → q ≢ p → q ≢ 0 → is_place p q ≡ false
is_place-other p q a b = ap (λ (c : Bool). c || (q == 0)) (differ q p a) ∙ differ q 0 b

is_place-true : (p q : ℕ) → is_place p q ≡ true → (q ≡ p) ⊎ (q ≡ 0)
is_place-true p q h = by (eqb_tells q p) (eqb_tells q 0)
  where
    by : (((q == p) ≡ true) × (q ≡ p)) ⊎ (((q == p) ≡ false) × (q ≢ p)) → (((q == 0) ≡ true) × (q ≡ 0)) ⊎ (((q == 0) ≡ false) × (q ≢ 0)) → (q ≡ p) ⊎ (q ≡ 0)
    by (inl e) f = inl e.1
    by (inr e) (inl f) = inr f.1
    by (inr e) (inr f) = absurd (true≢false (sym h ∙ is_place-other p q e.1 f.1))

is_place-false : (p q : ℕ) → is_place p q ≡ false → (q ≢ p) × (q ≢ 0)
is_place-false p q h =
    (λ e. true≢false (sym (is_place-same p q e) ∙ h), λ e. true≢false (sym (ap (λ (b : Bool). (q == p) || b) (alike q 0 e) ∙ or-true (q == p)) ∙ h))

-- A slot that is the first with a place, or free.
pub record Slot (p : ℕ) (ps : List ℕ) (k : ℕ) : Type 0 where
  pub few : k < 6
  pub is : slot_of p ps ≡ k
  pub here : (get_or ps k 0 ≡ p) ⊎ (get_or ps k 0 ≡ 0)
  pub before : (j : ℕ) → j < k → (get_or ps j 0 ≢ p) × (get_or ps j 0 ≢ 0)

slot-is : (p : ℕ) (ps : List ℕ) (k : ℕ) → length ps ≡ 6 → k < 6 → is_place p (get_or ps k 0) ≡ true → ((j : ℕ) → j < k → is_place p (get_or ps j 0) ≡ false)
    → slot_of p ps ≡ k
slot-is p ps k full low here before =
    let first : position_or_len (is_place p) ps ≡ k = position_or_len_is (is_place p) ps k 0 (omega (arith, full, low)) before (λ q. here) in
    ap (λ (n : ℕ). unwrap_or (if nat_lt n (length ps) then Some n else None) 5) first
    ∙ ap (λ (b : Bool). unwrap_or (if b then Some k else None) 5) (lt-ltb k (length ps) (omega (arith, full, low)))

pub find-slot : (p : ℕ) (ps : List ℕ) → length ps ≡ 6 → ((k : ℕ) × Slot p ps k) ⊎ ((j : ℕ) → j < 6 → (get_or ps j 0 ≢ p) × (get_or ps j 0 ≢ 0))
find-slot p ps full = by (leb_tells (suc (position_or_len (is_place p) ps)) (length ps))
  where
    n : ℕ
    n = position_or_len (is_place p) ps

    by : ((nat_le (suc n) (length ps) ≡ true) × (suc n ≤ length ps)) ⊎ ((nat_le (suc n) (length ps) ≡ false) × (length ps < suc n))
        → ((k : ℕ) × Slot p ps k) ⊎ ((j : ℕ) → j < 6 → (get_or ps j 0 ≢ p) × (get_or ps j 0 ≢ 0))
    by (inl e) =
        let found : position (is_place p) ps ≡ Some n = ap (λ (b : Bool). if b then Some n else None) e.0 in
        let at = position-Some (is_place p) ps n 0 found in
        let low = e.1 in
        inl (
          n,
          record {
            few = omega (arith, low, full);
            is = slot-is p ps n full (omega (arith, low, full)) at.1 at.2;
            here = is_place-true p (get_or ps n 0) at.1;
            before = λ j q. is_place-false p (get_or ps j 0) (at.2 j q);
          },
        )
    by (inr e) = inr (λ j q. let high = e.1 in is_place-false p (get_or ps j 0) (fails_before_first (is_place p) ps j 0 (omega (arith, high, full, q))))

-- Six places are not seven.

any-below : (xs : List ℕ) (n : ℕ) → ((i : ℕ) → i < length xs → get_or xs i 0 < n) → (q : ℕ) → list_any (λ x. q == x) xs ≡ true → q < n
any-below [] n h q e = absurd (true≢false (sym e))
any-below (x ∷ xs) n h q e = by (any-below xs n (λ i low. h (suc i) (omega (arith, low))) q) (eqb_tells q x)
  where
    by : (list_any (λ y. q == y) xs ≡ true → q < n) → (((q == x) ≡ true) × (q ≡ x)) ⊎ (((q == x) ≡ false) × (q ≢ x)) → q < n
    by more (inl z) = let low = h zero (omega arith) in let same = z.1 in omega (arith, low, same)
    by more (inr z) = more (ap (λ (b : Bool). b || list_any (λ y. q == y) xs) (sym z.0) ∙ e)

pub crowded : (p : ℕ) (ps : List ℕ) → length ps ≡ 6 → 1 ≤ p → p ≤ 6 → ((i : ℕ) → get_or ps i 0 ≤ 6)
    → ((i j : ℕ) → j < i → get_or ps i 0 ≢ 0 → (get_or ps j 0 ≢ 0) × (get_or ps j 0 ≢ get_or ps i 0))
    → ((j : ℕ) → j < 6 → (get_or ps j 0 ≢ p) × (get_or ps j 0 ≢ 0)) → ⊥
crowded p ps full low high each kept none =
    let all : length (0 ∷ p ∷ ps) ≤ 7 = length-le_from_distinct_below (0 ∷ p ∷ ps) 7
    (IsDistinct-from_apart (λ x y. x == y) (0 ∷ p ∷ ps) (λ i j d a b.
    subst (λ (x : ℕ). (x == get_or (0 ∷ p ∷ ps) j d) ≡ false) (sym (get_or_default_zero (0 ∷ p ∷ ps) i d (omega (arith, a, b))))
    (subst (λ (y : ℕ). (get_or (0 ∷ p ∷ ps) i 0 == y) ≡ false) (sym (get_or_default_zero (0 ∷ p ∷ ps) j d b)) (differ _ _ (apart i j a b)))))
    (any-below (0 ∷ p ∷ ps) 7 below) in
    omega (arith, all, full)
  where
    apart : (i j : ℕ) → i < j → j < length (0 ∷ p ∷ ps) → get_or (0 ∷ p ∷ ps) i 0 ≢ get_or (0 ∷ p ∷ ps) j 0
    apart i zero a b = absurd (omega (arith, a))
    apart zero (suc zero) a b = λ e. omega (arith, e, low)
    apart (suc i) (suc zero) a b = absurd (omega (arith, a))
    apart zero (suc (suc j)) a b = λ e. (none j (omega (arith, b, full))).1 (sym e)
    apart (suc zero) (suc (suc j)) a b = λ e. (none j (omega (arith, b, full))).0 (sym e)
    apart (suc (suc i)) (suc (suc j)) a b = (kept j i (omega (arith, a)) (none j (omega (arith, b, full))).1).1

    below : (i : ℕ) → i < length (0 ∷ p ∷ ps) → get_or (0 ∷ p ∷ ps) i 0 < 7
    below zero b = omega arith
    below (suc zero) b = omega (arith, high)
    below (suc (suc i)) b = let few = each i in omega (arith, few)

pub kept-slot : (p : ℕ) (ps : List ℕ) (i : ℕ) → length ps ≡ 6 → ((i j : ℕ) → j < i → get_or ps i 0 ≢ 0 → (get_or ps j 0 ≢ 0) × (get_or ps j 0 ≢ get_or ps i 0))
    → i < 6 → get_or ps i 0 ≡ p → p ≢ 0 → slot_of p ps ≡ i
kept-slot p ps i full kept low e z = slot-is p ps i full low (is_place-same p (get_or ps i 0) e)
    (λ j q. let k = kept i j q (λ y. z (sym e ∙ y)) in is_place-other p (get_or ps j 0) (λ y. k.1 (y ∙ sym e)) k.0)

-- The places with one more
pub opened-each : (p n : ℕ) (ps : List ℕ) → p ≤ 6 → n < length ps → ((i : ℕ) → get_or ps i 0 ≤ 6) → (i : ℕ) → get_or (slice_set ps n p) i 0 ≤ 6
opened-each p n ps high low each i = by (eqb_tells i n)
  where
    by : (((i == n) ≡ true) × (i ≡ n)) ⊎ (((i == n) ≡ false) × (i ≢ n)) → get_or (slice_set ps n p) i 0 ≤ 6
    by (inl e) = subst (λ (j : ℕ). j ≤ 6) (sym (ap (λ (j : ℕ). get_or (slice_set ps n p) j 0) e.1 ∙ get_or-set_same ps n p 0 low)) high
    by (inr e) = subst (λ (j : ℕ). j ≤ 6) (sym (get_or-set_other ps n i p 0 e.1)) (each i)

module _ {p n : ℕ} {ps : List ℕ} (s : Slot p ps n) (full : length ps ≡ 6) (low : 1 ≤ p)
    (kept : (i j : ℕ) → j < i → get_or ps i 0 ≢ 0 → (get_or ps j 0 ≢ 0) × (get_or ps j 0 ≢ get_or ps i 0)) where
  pub opened-here : get_or (slice_set ps n p) n 0 ≡ p
  opened-here = get_or-set_same ps n p 0 (let few = s.few in omega (arith, few, full))

  opened-other : (i : ℕ) → i ≢ n → get_or (slice_set ps n p) i 0 ≡ get_or ps i 0
  opened-other i z = get_or-set_other ps n i p 0 z

  pub opened-kept : (i j : ℕ) → j < i → get_or (slice_set ps n p) i 0 ≢ 0
      → (get_or (slice_set ps n p) j 0 ≢ 0) × (get_or (slice_set ps n p) j 0 ≢ get_or (slice_set ps n p) i 0)
  opened-kept i j q z = by (eqb_tells i n) (eqb_tells j n)
    where
      held_of : (get_or ps n 0 ≡ p) ⊎ (get_or ps n 0 ≡ 0) → get_or ps n 0 ≢ 0 → get_or ps n 0 ≡ p
      held_of (inl e) y = e
      held_of (inr e) y = absurd (y e)

      by : (((i == n) ≡ true) × (i ≡ n)) ⊎ (((i == n) ≡ false) × (i ≢ n)) → (((j == n) ≡ true) × (j ≡ n)) ⊎ (((j == n) ≡ false) × (j ≢ n))
          → (get_or (slice_set ps n p) j 0 ≢ 0) × (get_or (slice_set ps n p) j 0 ≢ get_or (slice_set ps n p) i 0)
      by (inl e) (inl f) = let a = e.1 in let b = f.1 in absurd (omega (arith, q, a, b))
      by (inl e) (inr f) =
          let a = e.1 in
          let b = s.before j (omega (arith, q, a)) in
          let old = opened-other j f.1 in
          let new : get_or (slice_set ps n p) i 0 ≡ p = ap (λ (l : ℕ). get_or (slice_set ps n p) l 0) a ∙ opened-here in
          (λ y. b.1 (sym old ∙ y), λ y. b.0 (sym old ∙ y ∙ new))
      by (inr e) (inl f) =
          let a = f.1 in
          let old = opened-other i e.1 in
          let k = kept i n (omega (arith, q, a)) (λ y. z (old ∙ y)) in
          let new : get_or (slice_set ps n p) j 0 ≡ p = ap (λ (l : ℕ). get_or (slice_set ps n p) l 0) a ∙ opened-here in
          let held : get_or ps n 0 ≡ p = held_of s.here k.0 in
          (λ y. k.0 (held ∙ sym new ∙ y), λ y. k.1 (held ∙ sym new ∙ y ∙ old))
      by (inr e) (inr f) =
          let one = opened-other i e.1 in
          let two = opened-other j f.1 in
          let k = kept i j q (λ y. z (one ∙ y)) in
          (λ y. k.0 (sym two ∙ y), λ y. k.1 (sym two ∙ y ∙ one))

  -- A place that is not among those with one more was not there before, and is another.
  pub opened-none : (q : ℕ) → 1 ≤ q → ((i : ℕ) → i < 6 → get_or (slice_set ps n p) i 0 ≢ q) → (q ≢ p) × ((i : ℕ) → i < 6 → get_or ps i 0 ≢ q)
  opened-none q one none =
      let apart : q ≢ p = λ e. none n s.few (opened-here ∙ sym e) in
      (apart, λ i few e. by i few e apart s.here (eqb_tells i n))
    where
      by : (i : ℕ) → i < 6 → get_or ps i 0 ≡ q → q ≢ p → (get_or ps n 0 ≡ p) ⊎ (get_or ps n 0 ≡ 0) → (((i == n) ≡ true) × (i ≡ n)) ⊎ (((i == n) ≡ false) × (i ≢ n)) → ⊥
      by i few e apart (inl h) (inl f) = apart (sym e ∙ ap (λ (l : ℕ). get_or ps l 0) f.1 ∙ h)
      by i few e apart (inr h) (inl f) = let zero_is : get_or ps i 0 ≡ 0 = ap (λ (l : ℕ). get_or ps l 0) f.1 ∙ h in omega (arith, e, zero_is, one)
      by i few e apart h (inr f) = none i few (opened-other i f.1 ∙ e)

-- A teller of a side

zero-past : (ps : List ℕ) (i : ℕ) → length ps ≤ i → get_or ps i 0 ≡ 0
zero-past [] i h = refl
zero-past (p ∷ ps) zero h = absurd (omega (arith, h))
zero-past (p ∷ ps) (suc i) h = zero-past ps i (omega (arith, h))

module _ (ps : List ℕ) (full : length ps ≡ 6) (slots : (i : ℕ) → i < 6 → IsInSlot ps i) where
  inside : (i : ℕ) → get_or ps i 0 ≢ 0 → i < 6
  inside i z = by (leb_tells (suc i) 6)
    where
      by : ((nat_le (suc i) 6 ≡ true) × (suc i ≤ 6)) ⊎ ((nat_le (suc i) 6 ≡ false) × (6 < suc i)) → i < 6
      by (inl e) = let x = e.1 in omega (arith, x)
      by (inr e) = let x = e.1 in absurd (z (zero-past ps i (omega (arith, x, full))))

  slots-each : (i : ℕ) → get_or ps i 0 ≤ 6
  slots-each i = by (eqb_tells (get_or ps i 0) 0)
    where
      by : (((get_or ps i 0 == 0) ≡ true) × (get_or ps i 0 ≡ 0)) ⊎ (((get_or ps i 0 == 0) ≡ false) × (get_or ps i 0 ≢ 0)) → get_or ps i 0 ≤ 6
      by (inl e) = let x = e.1 in omega (arith, x)
      by (inr e) = (slots i (inside i e.1) e.1).0

  slots-kept : (i j : ℕ) → j < i → get_or ps i 0 ≢ 0 → (get_or ps j 0 ≢ 0) × (get_or ps j 0 ≢ get_or ps i 0)
  slots-kept i j q z = by (find-slot (get_or ps i 0) ps full)
    where
      low : i < 6
      low = inside i z

      by : ((k : ℕ) × Slot (get_or ps i 0) ps k) ⊎ ((k : ℕ) → k < 6 → (get_or ps k 0 ≢ get_or ps i 0) × (get_or ps k 0 ≢ 0))
          → (get_or ps j 0 ≢ 0) × (get_or ps j 0 ≢ get_or ps i 0)
      by (inl s) =
          let k : ℕ = s.0 in
          let own : i ≡ k = sym (slots i low z).1 ∙ s.1.is in
          let before = s.1.before j (omega (arith, q, own)) in
          (before.1, before.0)
      by (inr none) = absurd ((none i low).0 refl)

in-slots : (ps : List ℕ) → length ps ≡ 6 → ((i : ℕ) → get_or ps i 0 ≤ 6)
    → ((i j : ℕ) → j < i → get_or ps i 0 ≢ 0 → (get_or ps j 0 ≢ 0) × (get_or ps j 0 ≢ get_or ps i 0))
    → (i : ℕ) → i < 6 → IsInSlot ps i
in-slots ps full each kept i few z = (each i, kept-slot (get_or ps i 0) ps i full kept few refl z)

zero-at : (n i : ℕ) → let none : ℕ = 0 in get_or (replicate n none) i none ≡ none
zero-at zero i = refl
zero-at (suc n) zero = refl
zero-at (suc n) (suc i) = zero-at n i

form-few : (form : HpForm) → form_number form ≤ 2
form-few Exact = omega arith
form-few Bar = omega arith
form-few Hundredths = omega arith

pub first-of : (side : Side) (form : HpForm) (t : Teller) → t ≡ record { side = side_number side; pixels = form_number form; places = replicate 6 0 } → IsTeller side t
first-of side form t is = subst (IsTeller side) (sym is) (record {
  side = refl;
  pixels = form-few form;
  full = refl;
  slots = λ i low z. absurd (z (zero-at 6 i));
})

appears-of : (side : Side) (t : Teller) (place : ℕ) → 1 ≤ place → place ≤ 6 → IsTeller side t → IsTeller side (appears place t)
appears-of side t place low high h = by (find-slot place t.places h.full)
  where
    ps : List ℕ
    ps = t.places

    by : ((k : ℕ) × Slot place ps k) ⊎ ((j : ℕ) → j < 6 → (get_or ps j 0 ≢ place) × (get_or ps j 0 ≢ 0)) → IsTeller side (appears place t)
    by (inl s) =
        let full = h.full in
        let few = s.1.few in
        let kept = slots-kept ps h.full h.slots in
        let same = length-set ps s.0 place in
        subst (λ (k : ℕ). IsTeller side (record t { places = slice_set ps k place })) (sym s.1.is) (record {
          side = h.side;
          pixels = h.pixels;
          full = omega (arith, same, full);
          slots = in-slots (slice_set ps s.0 place) (omega (arith, same, full))
              (opened-each place s.0 ps high (omega (arith, few, full)) (slots-each ps h.full h.slots)) (opened-kept s.1 h.full low kept);
        })
    by (inr none) = absurd (crowded place ps h.full low high (slots-each ps h.full h.slots) (slots-kept ps h.full h.slots) none)

meets-of : (side : Side) (e : Event) (t : Teller) → IsEvent e → IsTeller side t → IsTeller side (meets e t)
unfolding meets
meets-of side (events.Switch w place level h) t r k = by (is_own w.side t)
  where
    by : (b : Bool) → IsTeller side (if b then t else appears place t)
    by true = k
    by false = appears-of side t place r.1.0 r.1.1 k
meets-of side (events.Damage w h source) t r k = k
meets-of side (events.Heal w h) t r k = k
meets-of side (events.Turn n) t r k = k
meets-of side (events.Move w move foe) t r k = k
meets-of side (events.Cant w why) t r k = k
meets-of side (events.Crit w) t r k = k
meets-of side (events.SuperEffective w) t r k = k
meets-of side (events.Resisted w) t r k = k
meets-of side (events.Immune w) t r k = k
meets-of side (events.Miss w) t r k = k
meets-of side (events.Fail w) t r k = k
meets-of side (events.Status w kind) t r k = k
meets-of side (events.Cure w kind) t r k = k
meets-of side (events.Boost w stat n) t r k = k
meets-of side (events.Unboost w stat n) t r k = k
meets-of side events.ClearAll t r k = k
meets-of side (events.Start w what) t r k = k
meets-of side (events.End w what) t r k = k
meets-of side (events.Activate w what) t r k = k
meets-of side (events.Prepare w move) t r k = k
meets-of side (events.MustRecharge w) t r k = k
meets-of side (events.HitCount w n) t r k = k
meets-of side events.OneHitKnockOut t r k = k
meets-of side (events.Faint w) t r k = k
meets-of side (events.Win s) t r k = k
meets-of side events.Tie t r k = k
meets-of side (events.Fault n) t r k = k

-- No events make it a teller of another side.
pub meets_all-of : (side : Side) (es : List Event) (t : Teller) → AllByRecursion IsEvent es → IsTeller side t → IsTeller side (meets_all es t)
unfolding meets_all
meets_all-of side [] t r k = k
meets_all-of side (e ∷ es) t r k = meets_all-of side es (meets e t) r.1 (meets-of side e t r.0 k)

meets-pixels : (e : Event) (t : Teller) → (meets e t).pixels ≡ t.pixels
unfolding meets
meets-pixels (events.Switch w place level h) t = by (is_own w.side t)
  where
    by : (b : Bool) → (if b then t else appears place t).pixels ≡ t.pixels
    by true = refl
    by false = refl
meets-pixels (events.Damage w h source) t = refl
meets-pixels (events.Heal w h) t = refl
meets-pixels (events.Turn n) t = refl
meets-pixels (events.Move w move foe) t = refl
meets-pixels (events.Cant w why) t = refl
meets-pixels (events.Crit w) t = refl
meets-pixels (events.SuperEffective w) t = refl
meets-pixels (events.Resisted w) t = refl
meets-pixels (events.Immune w) t = refl
meets-pixels (events.Miss w) t = refl
meets-pixels (events.Fail w) t = refl
meets-pixels (events.Status w kind) t = refl
meets-pixels (events.Cure w kind) t = refl
meets-pixels (events.Boost w stat n) t = refl
meets-pixels (events.Unboost w stat n) t = refl
meets-pixels events.ClearAll t = refl
meets-pixels (events.Start w what) t = refl
meets-pixels (events.End w what) t = refl
meets-pixels (events.Activate w what) t = refl
meets-pixels (events.Prepare w move) t = refl
meets-pixels (events.MustRecharge w) t = refl
meets-pixels (events.HitCount w n) t = refl
meets-pixels events.OneHitKnockOut t = refl
meets-pixels (events.Faint w) t = refl
meets-pixels (events.Win s) t = refl
meets-pixels events.Tie t = refl
meets-pixels (events.Fault n) t = refl

pub meets_all-pixels : (es : List Event) (t : Teller) → (meets_all es t).pixels ≡ t.pixels
unfolding meets_all
meets_all-pixels [] t = refl
meets_all-pixels (e ∷ es) t = meets_all-pixels es (meets e t) ∙ meets-pixels e t

-- What the tests of a teller show.
own_side : (side : Side) (t : Teller) → is_own side t ≡ true → t.side ≡ side_number side
own_side side t h = by (eqb_tells (side_number side) t.side)
  where
    by : (((side_number side == t.side) ≡ true) × (side_number side ≡ t.side)) ⊎ (((side_number side == t.side) ≡ false) × (side_number side ≢ t.side)) → t.side ≡ side_number side
    by (inl e) = sym e.1
    by (inr e) = absurd (true≢false (sym h ∙ e.0))

both : (a b : Bool) → (a && b) ≡ true → (a ≡ true) × (b ≡ true)
both true b h = (refl, h)
both false b h = absurd (true≢false (sym h))

pub all_in_slots : (side : Side) (t : Teller) (own a b c d e f : Bool) → own ≡ is_own side t → own ≡ true → t.pixels ≤ 2 → length t.places ≡ 6
    → (((((a && b) && c) && d) && e) && f) ≡ true
    → (a ≡ true → IsInSlot t.places 0) → (b ≡ true → IsInSlot t.places 1) → (c ≡ true → IsInSlot t.places 2)
    → (d ≡ true → IsInSlot t.places 3) → (e ≡ true → IsInSlot t.places 4) → (f ≡ true → IsInSlot t.places 5) → IsTeller side t
all_in_slots side t own a b c d e f is mine pixels full all p0 p1 p2 p3 p4 p5 = record {
  side = own_side side t (sym is ∙ mine);
  pixels = pixels;
  full = full;
  slots = at;
}
  where
    five : (((((a && b) && c) && d) && e) ≡ true) × (f ≡ true)
    five = both ((((a && b) && c) && d) && e) f all

    four : ((((a && b) && c) && d) ≡ true) × (e ≡ true)
    four = both (((a && b) && c) && d) e five.0

    three : (((a && b) && c) ≡ true) × (d ≡ true)
    three = both ((a && b) && c) d four.0

    two : ((a && b) ≡ true) × (c ≡ true)
    two = both (a && b) c three.0

    one : (a ≡ true) × (b ≡ true)
    one = both a b two.0

    at : (slot : ℕ) → slot < 6 → IsInSlot t.places slot
    at zero low = p0 one.0
    at (suc zero) low = p1 one.1
    at (suc (suc zero)) low = p2 two.1
    at (suc (suc (suc zero))) low = p3 three.1
    at (suc (suc (suc (suc zero)))) low = p4 four.1
    at (suc (suc (suc (suc (suc zero))))) low = p5 five.1
    at (suc (suc (suc (suc (suc (suc slot)))))) low = absurd (omega (arith, low))
