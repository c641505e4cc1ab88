-- The parts of a damage that are in one class.
use Rattle.std.proofs.Common.{arith, cond, inl, inr, max, min, nat_le, refl, ap, subst, sym, Bool, true, false, ◌&&◌, ◌*◌, ◌+◌, ◌-◌, ◌/◌, ◌<◌, ◌==◌, ◌≡◌, ◌≤◌, ◌∙◌, ◌⊎◌, ℕ}
use Rattle.std.proofs.Math.Nat.{le-div_iff_mul-le, mul-le-mul_left, mul-le-mul_right}
use Rattle.std.proofs.lemmas.Bool.{true≢false}
use Rattle.std.proofs.lemmas.Bool.Decides.{nat_tests}
use Rattle.gen1_rolls.specs.declared.rolls.Look.{Look}
use Rattle.gen1_outcomes.specs.Bytes.{alike_in, class_of, last_factor, least_factor, part_told, told}

order : (m n : ℕ) → (m ≤ n) ⊎ (n < m)
order m n = grind arith

-- The least factor of a part is at most h exactly if h makes the part.
factor-most : (d q h : ℕ) → 0 < d → least_factor d q ≤ h → q * 255 ≤ h * d
factor-most d q h some le =
    let same : max d 1 ≡ d = omega (arith, some) in
    let times : (h + 1) * max d 1 ≡ (h + 1) * d = ap (λ (x : ℕ). (h + 1) * x) same in
    let is = le-div_iff_mul-le {k = max d 1} {x = h + 1} {y = q * 255 + (d - 1)} (omega arith) in
    elim (order ((h + 1) * max d 1) (q * 255 + (d - 1))) [
      | inl far ↦ let more : h + 1 ≤ least_factor d q = is.1 far in absurd (omega (arith, more, le))
      | inr near ↦ omega (arith, near, times, some)
    ]

factor-enough : (d q h : ℕ) → 0 < d → q * 255 ≤ h * d → least_factor d q ≤ h
factor-enough d q h some le =
    let same : max d 1 ≡ d = omega (arith, some) in
    let times : (h + 1) * max d 1 ≡ (h + 1) * d = ap (λ (x : ℕ). (h + 1) * x) same in
    let is = le-div_iff_mul-le {k = max d 1} {x = h + 1} {y = q * 255 + (d - 1)} (omega arith) in
    elim (order (least_factor d q) h) [
      | inl most ↦ most
      | inr more ↦ let far : (h + 1) * max d 1 ≤ q * 255 + (d - 1) = is.0 (omega (arith, more)) in absurd (omega (arith, far, times, le, some))
    ]

-- A class is at most another one exactly if its factor is at most the last one of this.
class-most : (n g c : ℕ) → 0 < n → (g - 217) * n / 39 ≤ c → g ≤ last_factor n c
class-most n g c some le =
    let top = 39 * (c + 1) + (n - 1) in
    let is = le-div_iff_mul-le {k = n} {x = g - 217 + 1} {y = top} some in
    let fits : (g - 217 + 1) * n ≤ top = omega (arith, le, some) in
    let less : g - 217 + 1 ≤ top / n = is.1 fits in
    omega (arith, less)

class-enough : (n g c : ℕ) → 0 < n → g ≤ last_factor n c → (g - 217) * n / 39 ≤ c
class-enough n g c some le =
    let top = 39 * (c + 1) + (n - 1) in
    let is = le-div_iff_mul-le {k = n} {x = g - 217 + 1} {y = top} some in
    let first = le-div_iff_mul-le {k = n} {x = 1} {y = top} some in
    let one : 1 ≤ top / n = first.1 (omega (arith, some)) in
    let less : g - 217 + 1 ≤ top / n = omega (arith, le, one) in
    let fits : (g - 217 + 1) * n ≤ top = is.0 less in
    omega (arith, fits, some)

pub class_last : (n d q c : ℕ) → 0 < n → 0 < d → class_of n d q ≤ c → q ≤ d * last_factor n c / 255
class_last n d q c some more le =
    let made = factor-most d q (last_factor n c) more (class-most n (least_factor d q) c some le) in
    omega (arith, made)

pub class_within : (n d q c : ℕ) → 0 < n → 0 < d → q ≤ d * last_factor n c / 255 → class_of n d q ≤ c
class_within n d q c some more le = class-enough n (least_factor d q) c some (factor-enough d q (last_factor n c) more (omega (arith, le)))

-- The last factor of a class is at most 255.
pub last_small : (n c : ℕ) → c < n → last_factor n c ≤ 255
last_small n c lt =
    let top = 39 * (c + 1) + (n - 1) in
    let is = le-div_iff_mul-le {k = n} {x = 40} {y = top} (omega (arith, lt)) in
    elim (order (top / n) 39) [
      | inl most ↦ omega (arith, most)
      | inr more ↦ let far : 40 * n ≤ top = is.0 (omega (arith, more)) in absurd (omega (arith, far, lt))
    ]

pub last_part : (n d c : ℕ) → c < n → d * last_factor n c / 255 ≤ d
last_part n d c lt =
    let most = last_small n c lt in
    let times : d * last_factor n c ≤ d * 255 = mul-le-mul_left d most in
    omega (arith, times)

-- There are n classes.
pub few_classes : (n d q : ℕ) → 0 < n → 0 < d → q ≤ d → class_of n d q < n
few_classes n d q some more le =
    let top = 39 * (n - 1 + 1) + (n - 1) in
    let is = le-div_iff_mul-le {k = n} {x = 39} {y = top} some in
    let all : 39 ≤ top / n = is.1 (omega (arith, some)) in
    let factor : 255 * d ≤ last_factor n (n - 1) * d = mul-le-mul_right d (omega (arith, all)) in
    let made : q * 255 ≤ last_factor n (n - 1) * d = omega (arith, factor, le) in
    let most = class-enough n (least_factor d q) (n - 1) some (factor-enough d q (last_factor n (n - 1)) more made) in
    omega (arith, most, some)

-- The classes of two parts, one of them from the edge on or below it: both are alike if one is from the first to the last part of the
-- other's class, and on its side of the edge.
from-edge : (n e p q a b first last : ℕ) → a < n → b < n → e ≤ p → (b ≤ a → q ≤ last) → (q ≤ last → b ≤ a) → (a ≤ b → first ≤ q) → (first ≤ q → a ≤ b)
    → (cond (nat_le e p) (n + a) a == cond (nat_le e q) (n + b) b) ≡ (nat_le (max first e) q && nat_le q last)
from-edge n e p q a b first last few fewer le on upto off from = grind (arith, nat_tests)

below-edge : (n e p q a b first last : ℕ) → a < n → b < n → p < e → (b ≤ a → q ≤ last) → (q ≤ last → b ≤ a) → (a ≤ b → first ≤ q) → (first ≤ q → a ≤ b)
    → (cond (nat_le e p) (n + a) a == cond (nat_le e q) (n + b) b) ≡ (nat_le first q && nat_le q (min last (e - 1)))
below-edge n e p q a b first last few fewer lt on upto off from = grind (arith, nat_tests)

-- A class begins with this part: the first one, or the one after the last of the class before it.
pub record Begins (n d class first : ℕ) : Type 0 where
  pub zero : class ≡ 0 → first ≡ 0
  pub more : 0 < class → first ≡ d * last_factor n (class - 1) / 255 + 1

pub begins_as : (n d p class first : ℕ) → class ≡ class_of n d p → (class ≡ 0) × (first ≡ 0) ⊎ (0 < class) × (first ≡ d * last_factor n (class - 1) / 255 + 1)
    → Begins n d (class_of n d p) first
begins_as n d p class first is (inl (none, e)) =
    record { zero = λ z. e; more = λ above. absurd (omega (arith, above, none, is)) }
begins_as n d p class first is (inr (above, e)) =
    record {
      zero = λ none. absurd (omega (arith, above, none, is));
      more = λ z. subst (λ (x : ℕ). first ≡ d * last_factor n (x - 1) / 255 + 1) is e;
    }

begins-on : (n d q a first : ℕ) → 0 < n → 0 < d → Begins n d a first → a ≤ class_of n d q → first ≤ q
begins-on n d q a first some more begins le =
    elim (order a 0) [
      | inl none ↦ omega (arith, begins.zero (omega (arith, none)))
      | inr above ↦
          elim (order q (d * last_factor n (a - 1) / 255)) [
            | inl within ↦ let less = class_within n d q (a - 1) some more within in absurd (omega (arith, less, le, above))
            | inr past ↦ omega (arith, past, begins.more above)
          ]
    ]

begins-from : (n d q a first : ℕ) → 0 < n → 0 < d → Begins n d a first → first ≤ q → a ≤ class_of n d q
begins-from n d q a first some more begins le =
    elim (order a (class_of n d q)) [
      | inl most ↦ most
      | inr less ↦
          let past = class_last n d q (a - 1) some more (omega (arith, less)) in
          absurd (omega (arith, past, begins.more (omega (arith, less)), le))
    ]

-- What is distinguished of a part, with at least one class.
abbrev told_of : ℕ → ℕ → ℕ → ℕ → ℕ
told_of n d e p = cond (nat_le e p) (n + class_of n d p) (class_of n d p)

told-same : (n d e p q : ℕ) → 0 < n → (told_of n d e p == told_of n d e q) ≡ (part_told n d e p == part_told n d e q)
told-same n d e p q some = let none : (n == 0) ≡ false = grind (arith, nat_tests, some) in rw none refl

pub run_from : (n d e p q first last : ℕ) → 0 < n → 0 < d → p ≤ d → q ≤ d → e ≤ p → Begins n d (class_of n d p) first → last ≡ d * last_factor n (class_of n d p) / 255
    → (part_told n d e p == part_told n d e q) ≡ (nat_le (max first e) q && nat_le q last)
run_from n d e p q first last some more le most at begins is =
    sym (told-same n d e p q some)
    ∙ from-edge n e p q (class_of n d p) (class_of n d q) first last (few_classes n d p some more le) (few_classes n d q some more most) at
    (λ b. omega (arith, is, class_last n d q (class_of n d p) some more b)) (λ b. class_within n d q (class_of n d p) some more (omega (arith, is, b)))
    (begins-on n d q (class_of n d p) first some more begins) (begins-from n d q (class_of n d p) first some more begins)

pub run_below : (n d e p q first last : ℕ) → 0 < n → 0 < d → p ≤ d → q ≤ d → p < e → Begins n d (class_of n d p) first → last ≡ d * last_factor n (class_of n d p) / 255
    → (part_told n d e p == part_told n d e q) ≡ (nat_le first q && nat_le q (min last (e - 1)))
run_below n d e p q first last some more le most at begins is =
    sym (told-same n d e p q some)
    ∙ below-edge n e p q (class_of n d p) (class_of n d q) first last (few_classes n d p some more le) (few_classes n d q some more most) at
    (λ b. omega (arith, is, class_last n d q (class_of n d p) some more b)) (λ b. class_within n d q (class_of n d p) some more (omega (arith, is, b)))
    (begins-on n d q (class_of n d p) first some more begins) (begins-from n d q (class_of n d p) first some more begins)

pub first_most : (n d p first : ℕ) → 0 < n → 0 < d → Begins n d (class_of n d p) first → first ≤ p
first_most n d p first some more begins = begins-on n d p (class_of n d p) first some more begins (omega arith)

-- Two bytes of one class are alike to the same bytes.
pub same_class : (n : ℕ) (look : Look) (first byte x m : ℕ) → cond (alike_in n look first byte) m 0 ≡ 1 → alike_in n look first x ≡ alike_in n look byte x
same_class n look first byte x m is =
    elim (true_or (alike_in n look first byte)) [
      | inl e ↦ let same : told n look first ≡ told n look byte = grind (arith, nat_tests, e) in ap (λ (t : ℕ). t == told n look x) same
      | inr e ↦ absurd (none (alike_in n look first byte) e is)
    ]
  where
    true_or : (b : Bool) → (b ≡ true) ⊎ (b ≡ false)
    true_or true = inl refl
    true_or false = inr refl

    none : (b : Bool) → b ≡ false → cond b m 0 ≡ 1 → ⊥
    none false e is = absurd (omega (arith, is))
    none true e is = absurd (true≢false e)
