-- Bits as a list of tests, and the conditions in an active block: the bits as a number, and the counts in the bytes
-- after them.
use Rattle.std.proofs.Common.{Bool, List, [], arith, false, get_or, length, lit<, nat_eq, not, refl, set, suc, sym, true, zero, ap, ℕ, ◌%◌, ◌*◌, ◌+◌, ◌-◌, ◌/◌, ◌<◌, ◌||◌, ◌≡◌, ◌≤◌, ◌^◌, ◌∙◌, ◌∷◌, None, Option, Some, drop, is_some, take, unwrap_or, ◌++◌}
use Rattle.std.proofs.Math.Nat.{pow-suc}
use Rattle.std.proofs.lemmas.Bool.{eq-eqb}
use Rattle.std.proofs.lemmas.Bool.Decides.{nat_tests}
use Rattle.std.proofs.lemmas.Nat.{and_assoc, and_comm, and_mask, and_or_apart, and_or_self, or_shifted}
use Rattle.std.specs.Int.Bits.{and_step, or_step}
use Rattle.std.specs.Int.RustNames.{bit_and, bit_or}
use Rattle.gen1_machine.specs.Rules.{bit_of}
use Rattle.gen1_machine.specs.Layout.{number_of_bits, active_block, condition_bits, conditions_number, disabled_slot, disabled_turns, energy_of, turns_byte}
use Rattle.gen1_layout.specs.Words.{any_at, holds_or_any_at, set_at, SameNumbers, count_bytes}
use Rattle.std.proofs.lemmas.List.{set-append_left, set-append_right}
use Rattle.gen1_stats.specs.Members.{Member}
use Rattle.std.specs.Prelude.{if◌then◌else◌}
use Rattle.gen1_machine.specs.declared.side.DisabledSlot.{DisabledSlot}
use Rattle.gen1_machine.specs.Conditions.{ActiveConditions, Storing, Underway}
use Rattle.gen1_machine.specs.State.{Active}
use Rattle.gen1_layout.specs.Parts.{turns_stored}
use Rattle.gen1_layout.specs.Shows.{IsStorableConditions, IsStorableUnderway, IsStorableBide}

-- Bits as a list of tests, and the effect of `|`, `& !` and `&` with one bit.

-- The bit at a place.
abbrev pub power : ℕ → ℕ
power zero = 1
power (suc k) = power k * 2

pub power_is : (k : ℕ) → 2 ^ k ≡ power k
power_is zero = refl
power_is (suc k) = pow-suc 2 k ∙ ap (λ (n : ℕ). n * 2) (power_is k)

abbrev bit : Bool → ℕ
bit b = bit_of b

-- The number of these bits, the lowest first. It doesn't unfold.
unfoldable pub bits_of : List Bool → ℕ
bits_of [] = 0
bits_of (b ∷ bs) = bits_of bs * 2 + bit b

pub bits_of-is : (bs : List Bool) → number_of_bits bs ≡ bits_of bs
unfolding bits_of
bits_of-is [] = refl
bits_of-is (b ∷ bs) = let e = bits_of-is bs in omega (arith, e)

-- A bound of the bits of a set.
abbrev pub bound : List Bool → ℕ
bound [] = 1
bound (b ∷ bs) = bound bs * 2

pub bits_of-lt : (bs : List Bool) → bits_of bs < bound bs
unfolding bits_of
bits_of-lt [] = lit< tt
bits_of-lt (true ∷ bs) = let h = bits_of-lt bs in omega arith
bits_of-lt (false ∷ bs) = let h = bits_of-lt bs in omega arith

pub or_nothing : (a : ℕ) → bit_or a 0 ≡ a
or_nothing a = let one : a * 1 ≡ a = omega arith in let h : bit_or (a * 1) 0 ≡ a * 1 + 0 = or_shifted a 0 0 (lit< tt) in rw one at h ∙ omega arith

pub and_nothing : (a : ℕ) → bit_and 0 a ≡ 0
and_nothing a = let h : bit_and a 0 ≡ a % 1 = and_mask a 0 in and_comm 0 a ∙ (h ∙ omega arith)

-- An `|` with one bit puts that condition into the set.
pub bits_set : (bs : List Bool) (k : ℕ) → k < length bs → bit_or (bits_of bs) (power k) ≡ bits_of (set bs k true)
unfolding bits_of
bits_set [] k h = absurd (omega arith)
bits_set (b ∷ bs) zero h =
    elim b as (λ (v : Bool). bit_or (bits_of bs * 2 + bit v) 1 ≡ bits_of bs * 2 + 1) [
      | true ↦ or_step (bits_of bs * 2 + 1) 1 ∙ (rw (or_nothing ((bits_of bs * 2 + 1) / 2)) (omega arith))
      | false ↦ or_step (bits_of bs * 2 + 0) 1 ∙ (rw (or_nothing ((bits_of bs * 2 + 0) / 2)) (omega arith))
    ]
bits_set (b ∷ bs) (suc k) h =
    let step = bits_set bs k (omega arith) in
    let half : power k * 2 / 2 ≡ power k = omega arith in
    let even : power k * 2 % 2 ≡ 0 = omega arith in
    elim b as (λ (v : Bool). bit_or (bits_of bs * 2 + bit v) (power k * 2) ≡ bits_of (set bs k true) * 2 + bit v) [
      | true ↦ (let low : (bits_of bs * 2 + 1) / 2 ≡ bits_of bs = omega arith in or_step (bits_of bs * 2 + 1) (power k * 2) ∙ rw (half, even, low, step) (omega arith))
      | false ↦ (let low : (bits_of bs * 2 + 0) / 2 ≡ bits_of bs = omega arith in or_step (bits_of bs * 2 + 0) (power k * 2) ∙ rw (half, even, low, step) (omega arith))
    ]

-- The number of n bits that are all set.
abbrev pub full : ℕ → ℕ
full zero = 0
full (suc n) = full n * 2 + 1

pub and_full : (bs : List Bool) (n : ℕ) → length bs ≤ n → bit_and (bits_of bs) (full n) ≡ bits_of bs
unfolding bits_of
and_full [] n h = and_nothing (full n)
and_full (b ∷ bs) zero h = absurd (omega arith)
and_full (b ∷ bs) (suc n) h =
    let step = and_full bs n (omega arith) in
    let half : (full n * 2 + 1) / 2 ≡ full n = omega arith in
    let odd : (full n * 2 + 1) % 2 ≡ 1 = omega arith in
    elim b as (λ (v : Bool). bit_and (bits_of bs * 2 + bit v) (full n * 2 + 1) ≡ bits_of bs * 2 + bit v) [
      | true ↦ (let low : (bits_of bs * 2 + 1) / 2 ≡ bits_of bs = omega arith in and_step (bits_of bs * 2 + 1) (full n * 2 + 1) ∙ rw (half, odd, low, step) (omega arith))
      | false ↦ (let low : (bits_of bs * 2 + 0) / 2 ≡ bits_of bs = omega arith in and_step (bits_of bs * 2 + 0) (full n * 2 + 1) ∙ rw (half, odd, low, step) (omega arith))
    ]

pub power-full : (k n : ℕ) → k < n → power k ≤ full n
power-full zero zero h = absurd (omega arith)
power-full zero (suc n) h = omega arith
power-full (suc k) zero h = absurd (omega arith)
power-full (suc k) (suc n) h = let step = power-full k n (omega arith) in omega arith

-- An `&` with all bits but one takes that condition out of the set.
pub bits_clear : (bs : List Bool) (k n : ℕ) → k < length bs → length bs ≤ n → bit_and (bits_of bs) (full n - power k) ≡ bits_of (set bs k false)
unfolding bits_of
bits_clear [] k n h l = absurd (omega arith)
bits_clear (b ∷ bs) zero zero h l = absurd (omega arith)
bits_clear (b ∷ bs) (suc k) zero h l = absurd (omega arith)
bits_clear (b ∷ bs) zero (suc n) h l =
    let step = and_full bs n (omega arith) in
    let even : (full n * 2 + 1) - 1 ≡ full n * 2 = omega arith in
    let half : full n * 2 / 2 ≡ full n = omega arith in
    let rest : full n * 2 % 2 ≡ 0 = omega arith in
    elim b as (λ (v : Bool). bit_and (bits_of bs * 2 + bit v) ((full n * 2 + 1) - 1) ≡ bits_of bs * 2 + 0) [
      | true ↦ (let low : (bits_of bs * 2 + 1) / 2 ≡ bits_of bs = omega arith in rw even (and_step (bits_of bs * 2 + 1) (full n * 2) ∙ rw (half, rest, low, step) (omega arith)))
      | false ↦ (let low : (bits_of bs * 2 + 0) / 2 ≡ bits_of bs = omega arith in rw even (and_step (bits_of bs * 2 + 0) (full n * 2) ∙ rw (half, rest, low, step) (omega arith)))
    ]
bits_clear (b ∷ bs) (suc k) (suc n) h l =
    let step = bits_clear bs k n (omega arith) (omega arith) in
    let under = power-full k n (omega arith) in
    let odd : (full n * 2 + 1) - power k * 2 ≡ (full n - power k) * 2 + 1 = omega arith in
    let half : ((full n - power k) * 2 + 1) / 2 ≡ full n - power k = omega arith in
    let rest : ((full n - power k) * 2 + 1) % 2 ≡ 1 = omega arith in
    elim b as (λ (v : Bool). bit_and (bits_of bs * 2 + bit v) ((full n * 2 + 1) - power k * 2) ≡ bits_of (set bs k false) * 2 + bit v) [
      | true ↦ (let low : (bits_of bs * 2 + 1) / 2 ≡ bits_of bs = omega arith in rw odd (and_step (bits_of bs * 2 + 1) ((full n - power k) * 2 + 1) ∙ rw (half, rest, low, step) (omega arith)))
      | false ↦ (let low : (bits_of bs * 2 + 0) / 2 ≡ bits_of bs = omega arith in rw odd (and_step (bits_of bs * 2 + 0) ((full n - power k) * 2 + 1) ∙ rw (half, rest, low, step) (omega arith)))
    ]

-- An `&` with one bit says whether that condition is in the set.
pub bits_get : (bs : List Bool) (k : ℕ) → bit_and (bits_of bs) (power k) ≡ bit (get_or bs k false) * power k
unfolding bits_of
bits_get [] k = and_nothing (power k) ∙ omega arith
bits_get (b ∷ bs) zero =
    let none : bit_and (bits_of bs) 0 ≡ 0 = and_comm (bits_of bs) 0 ∙ and_nothing (bits_of bs) in
    elim b as (λ (v : Bool). bit_and (bits_of bs * 2 + bit v) 1 ≡ bit v * 1) [
      | true ↦ (let low : (bits_of bs * 2 + 1) / 2 ≡ bits_of bs = omega arith in and_step (bits_of bs * 2 + 1) 1 ∙ rw (low, none) (omega arith))
      | false ↦ (let low : (bits_of bs * 2 + 0) / 2 ≡ bits_of bs = omega arith in and_step (bits_of bs * 2 + 0) 1 ∙ rw (low, none) (omega arith))
    ]
bits_get (b ∷ bs) (suc k) =
    let step = bits_get bs k in
    let half : power k * 2 / 2 ≡ power k = omega arith in
    let even : power k * 2 % 2 ≡ 0 = omega arith in
    elim b as (λ (v : Bool). bit_and (bits_of bs * 2 + bit v) (power k * 2) ≡ bit (get_or bs k false) * (power k * 2)) [
      | true ↦ (let low : (bits_of bs * 2 + 1) / 2 ≡ bits_of bs = omega arith in and_step (bits_of bs * 2 + 1) (power k * 2) ∙ rw (half, even, low, step) (omega arith))
      | false ↦ (let low : (bits_of bs * 2 + 0) / 2 ≡ bits_of bs = omega arith in and_step (bits_of bs * 2 + 0) (power k * 2) ∙ rw (half, even, low, step) (omega arith))
    ]

pub bit_test : (b : Bool) (n : ℕ) → 0 < n → nat_eq (bit b * n) n ≡ b
bit_test true n h = let e : 1 * n ≡ n = omega arith in eq-eqb (1 * n) n e
bit_test false n h = grind (arith, nat_tests)

pub power-positive : (k : ℕ) → 0 < power k
power-positive zero = lit< tt
power-positive (suc k) = let h = power-positive k in omega arith

-- Reading one of the bits.
pub bit_read : (bs : List Bool) (k : ℕ) → nat_eq (bit_and (bits_of bs) (power k)) (power k) ≡ get_or bs k false
bit_read bs k = rw (bits_get bs k) (bit_test (get_or bs k false) (power k) (power-positive k))

-- Whether one of several bits is set

abbrev meets : List Bool → ℕ → Bool
meets bs n = not (nat_eq (bit_and (bits_of bs) n) 0)

is_none : (n : ℕ) → n ≡ 0 → not (nat_eq n 0) ≡ false
is_none n e = grind (arith, nat_tests)

is_one : (n : ℕ) → (n ≡ 0 → ⊥) → not (nat_eq n 0) ≡ true
is_one n h = grind (arith, nat_tests)

meets_bit : (bs : List Bool) (m k : ℕ) → meets bs (bit_or m (power k)) ≡ get_or bs k false || meets bs m
meets_bit bs m k = by (get_or bs k false) refl
  where
    by : (b : Bool) → get_or bs k false ≡ b → meets bs (bit_or m (power k)) ≡ b || meets bs m
    by true e = is_one (bit_and (bits_of bs) (bit_or m (power k))) λ none.
        let bit_is : bit_and (bits_of bs) (power k) ≡ 1 * power k = bits_get bs k ∙ ap (λ (b : Bool). bit b * power k) e in
        let still : bit_and (bit_and (bits_of bs) (bit_or m (power k))) (power k) ≡ bit_and (bits_of bs) (power k) =
        and_assoc (power k) (bits_of bs) (bit_or m (power k)) ∙ ap (bit_and (bits_of bs)) (and_or_self (power k) m) in
        let gone : bit_and (bit_and (bits_of bs) (bit_or m (power k))) (power k) ≡ 0 = ap (λ (n : ℕ). bit_and n (power k)) none ∙ and_nothing (power k) in
        absurd (omega (arith, bit_is, still, gone, power-positive k))
    by false e =
        let off : bit_and (power k) (bits_of bs) ≡ 0 = and_comm (power k) (bits_of bs) ∙ bits_get bs k ∙ ap (λ (b : Bool). bit b * power k) e ∙ omega arith in
        ap (λ (n : ℕ). not (nat_eq n 0)) (and_comm (bits_of bs) (bit_or m (power k)) ∙ and_or_apart (bits_of bs) m (power k) off ∙ and_comm m (bits_of bs))

holds_first : (holds : Bool) (places : List ℕ) (bs : List Bool) → holds_or_any_at holds places bs ≡ holds || any_at places bs
holds_first holds [] bs = by holds
  where
    by : (b : Bool) → b ≡ b || false
    by true = refl
    by false = refl
holds_first holds (k ∷ places) bs =
    holds_first (holds || get_or bs k false) places bs ∙ or_assoc holds (get_or bs k false) (any_at places bs)
    ∙ ap (λ (b : Bool). holds || b) (sym (holds_first (get_or bs k false) places bs))
  where
    or_assoc : (x y z : Bool) → (x || y) || z ≡ x || (y || z)
    or_assoc true y z = refl
    or_assoc false y z = refl

pub any_read : (bs : List Bool) (places : List ℕ) → not (nat_eq (bit_and (bits_of bs) (set_at places)) 0) ≡ any_at places bs
any_read bs [] = is_none (bit_and (bits_of bs) 0) (and_comm (bits_of bs) 0 ∙ and_nothing (bits_of bs))
any_read bs (k ∷ places) =
    ap (λ (n : ℕ). meets bs (bit_or (set_at places) n)) (power_is k) ∙ meets_bit bs (set_at places) k
    ∙ ap (λ (b : Bool). get_or bs k false || b) (any_read bs places) ∙ sym (holds_first (get_or bs k false) places bs)

-- A number of at most 7 has no bits but the lowest three.
pub lowest_three : (n mask : ℕ) → n ≤ 7 → bit_and n mask ≡ bit_and n (bit_and 7 mask)
lowest_three n mask few =
    let low : bit_and n 7 ≡ n % 2 ^ 3 = and_mask n 3 in
    let same : n ≡ bit_and n 7 = omega arith in
    ap (λ (k : ℕ). bit_and k mask) same ∙ and_assoc mask n 7

pub none_above : (n mask : ℕ) → n ≤ 7 → bit_and 7 mask ≡ 0 → bit_and n mask ≡ 0
none_above n mask few apart = lowest_three n mask few ∙ ap (bit_and n) apart ∙ and_comm n 0 ∙ and_nothing n

-- The conditions are 17 bits.
pub number_small : (c : ActiveConditions) → conditions_number c < 131072
number_small c = let bits = condition_bits c in let e = bits_of-is bits in let small = bits_of-lt bits in omega (arith, e, small)

-- A count with its bit

pub count_back : (o : Option ℕ) → (if is_some o then Some (unwrap_or o 0) else None) ≡ o
count_back None = refl
count_back (Some n) = refl

pub disabled_back : (o : Option DisabledSlot) → is_some o ≡ true → Some (record { slot = disabled_slot o; turns = disabled_turns o }) ≡ o
disabled_back None e = cc
disabled_back (Some d) e = refl

-- A count that is written, and bits that are written

-- The active block after the bits are written.
abbrev pub marked : Member → Active → ActiveConditions → List ℕ
marked m a new = take 21 (active_block m (record a { conditions = new })) ++ drop 21 (active_block m a)

pub count_block : (at byte : ℕ) (m : Member) (a : Active) (new : ActiveConditions) → 21 ≤ at → at < 29
    → count_bytes new ≡ set (count_bytes a.conditions) (at - 21) byte
    → set (marked m a new) at byte ≡ active_block m (record a { conditions = new })
count_block at byte m a new low high counted =
    let front = take 21 (active_block m (record a { conditions = new })) in
    let old = count_bytes a.conditions in
    let back = drop 29 (active_block m a) in
    set-append_right front (old ++ back) 21 at byte refl low
    ∙ ap (λ (l : List ℕ). front ++ l) (set-append_left old back (at - 21) byte (omega arith) ∙ ap (λ (l : List ℕ). l ++ back) (sym counted))

-- Bide, thrashing and trapping. At most one of them is on

pub bide_back : (b : Option Storing) (t r : Option ℕ) → (if is_some b then Some (turns_byte b t r) else None) ≡ turns_stored b
bide_back None t r = refl
bide_back (Some x) t r = refl

abbrev Alone : Option Storing → Option ℕ → Option ℕ → Type 0
Alone b t r = bit_of (is_some b) + bit_of (is_some t) + bit_of (is_some r) ≤ 1

pub thrash_back : (b : Option Storing) (t r : Option ℕ) → Alone b t r → (if is_some t then Some (turns_byte b t r) else None) ≡ t
thrash_back b None r h = refl
thrash_back None (Some n) r h = refl
thrash_back (Some x) (Some n) r h = absurd (omega (arith, h))

pub trapping_back : (b : Option Storing) (t r : Option ℕ) → Alone b t r → (if is_some r then Some (turns_byte b t r) else None) ≡ r
trapping_back b t None h = refl
trapping_back None None (Some n) h = refl
trapping_back (Some x) t (Some n) h = absurd (omega (arith, h))
trapping_back None (Some m) (Some n) h = absurd (omega (arith, h))

-- The byte of turns after one of the three is off: 0 if it was on, and unchanged otherwise

pub without_bide-on : (b : Option Storing) (t r : Option ℕ) → Alone b t r → is_some b ≡ true → 0 ≡ turns_byte None t r
without_bide-on None t r h e = cc
without_bide-on (Some x) (Some m) r h e = absurd (omega (arith, h))
without_bide-on (Some x) None (Some n) h e = absurd (omega (arith, h))
without_bide-on (Some x) None None h e = refl

pub without_bide-off : (b : Option Storing) (t r : Option ℕ) → is_some b ≡ false → turns_byte b t r ≡ turns_byte None t r
without_bide-off None t r e = refl
without_bide-off (Some x) t r e = cc

pub without_thrash-on : (b : Option Storing) (t r : Option ℕ) → Alone b t r → is_some t ≡ true → 0 ≡ turns_byte b None r
without_thrash-on b None r h e = cc
without_thrash-on (Some x) (Some m) r h e = absurd (omega (arith, h))
without_thrash-on None (Some m) (Some n) h e = absurd (omega (arith, h))
without_thrash-on None (Some m) None h e = refl

pub without_thrash-off : (b : Option Storing) (t r : Option ℕ) → is_some t ≡ false → turns_byte b t r ≡ turns_byte b None r
without_thrash-off b None r e = refl
without_thrash-off b (Some m) r e = cc

pub without_trapping-on : (b : Option Storing) (t r : Option ℕ) → Alone b t r → is_some r ≡ true → 0 ≡ turns_byte b t None
without_trapping-on b t None h e = cc
without_trapping-on (Some x) t (Some n) h e = absurd (omega (arith, h))
without_trapping-on None (Some m) (Some n) h e = absurd (omega (arith, h))
without_trapping-on None None (Some n) h e = refl

pub without_trapping-off : (b : Option Storing) (t r : Option ℕ) → is_some r ≡ false → turns_byte b t r ≡ turns_byte b t None
without_trapping-off b t None e = refl
without_trapping-off b t (Some n) e = cc

pub energy_fits : (b : Option Storing) → IsStorableBide b → energy_of b < 65536
energy_fits None h = omega arith
energy_fits (Some x) h = omega (arith, h.1)

-- What stays storable

pub less_alone : (u : Underway) → IsStorableUnderway u → Alone None u.thrash u.trapping × Alone u.bide None u.trapping × Alone u.bide u.thrash None
less_alone u h = (omega (arith, h.alone), omega (arith, h.alone), omega (arith, h.alone))

pub same_storable : (count : ℕ) (c d : ActiveConditions) → SameNumbers c d → IsStorableConditions count d → IsStorableConditions count c
same_storable count c d e h = record {
  underway = record {
    bide = rw e.bide h.underway.bide;
    thrash = rw e.thrash h.underway.thrash;
    trapping = rw e.trapping h.underway.trapping;
    alone = rw (e.bide, e.thrash, e.trapping) h.underway.alone;
  };
  confused = rw e.confused h.confused;
  substitute = rw e.substitute h.substitute;
  bad_poison = rw e.bad_poison h.bad_poison;
  disabled = rw e.disabled h.disabled;
}

-- A member that doesn't trap has no trapping to end

pub not_trapping : (c : ActiveConditions) → is_some c.underway.trapping ≡ false → record c { underway = record c.underway { trapping = None } } ≡ c
not_trapping c e = ap (λ (t : Option ℕ). record c { underway = record c.underway { trapping = t } }) (sym (by c.underway.trapping e))
  where
    by : (t : Option ℕ) → is_some t ≡ false → t ≡ None
    by None e = refl
    by (Some n) e = cc
