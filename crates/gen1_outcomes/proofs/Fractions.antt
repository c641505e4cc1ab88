-- Fractions: equality, sums and products.
use Rattle.std.proofs.Common.{◌≡◌, ℕ, ◌+◌, ◌*◌, ◌<◌, ◌≤◌, ◌/◌, ap, ap₂, subst, sym, ◌∙◌, arith, refl}
use Rattle.std.proofs.Math.Nat.{add-mul, div-mul_cancel, dvd-mul_left, mul-add, mul_assoc, mul_comm, mul-div_cancel', mul-le-mul_left, le_of_mul-le-mul_left, eq_of_mul-eq-mul_left}
use Rattle.std.specs.Int.{◌∣◌}
use Rattle.std.proofs.lemmas.Nat.{le-div, mul-le}
use Rattle.std.proofs.lemmas.Nat.Gcd.{le_of_dvd}
use Rattle.gen1_outcomes.specs.declared.nodes.Chance.{Chance}
use Rattle.gen1_outcomes.specs.Chances.{IsSum}
use Rattle.gen1_outcomes.specs.Weights.{AreEqual, Fraction, nothing, of_chance, plus, times, unit}

-- Parts of a whole, by multiplying across.

pub turned : (a b c : ℕ) → a * (b * c) ≡ c * (b * a)
turned a b c = mul_comm a (b * c) ∙ mul_assoc b c a ∙ sym (mul_comm c (b * a) ∙ mul_assoc b a c ∙ ap (λ (x : ℕ). b * x) (mul_comm a c))

pub moved : (a b c : ℕ) → a * (b * c) ≡ b * (a * c)
moved a b c = sym (mul_assoc a b c) ∙ ap (λ (x : ℕ). x * c) (mul_comm a b) ∙ mul_assoc b a c

-- The product of two positive numbers.
pub both_positive : (a b : ℕ) → 0 < a → 0 < b → 0 < a * b
both_positive a b p q = let one : 1 * 1 ≤ a * b = mul-le 1 1 a b (omega (arith, p)) (omega (arith, q)) in omega (arith, one)

-- A part grows by another one.
pub grown : (a w num whole b now more : ℕ) → b * w ≡ a * now → more * whole ≡ num * now → (b + more) * (w * whole) ≡ now * (a * whole + num * w)
grown a w num whole b now more same is =
    let first : b * (w * whole) ≡ now * (a * whole) =
    sym (mul_assoc b w whole) ∙ ap (λ (x : ℕ). x * whole) same ∙ ap (λ (x : ℕ). x * whole) (mul_comm a now) ∙ mul_assoc now a whole
    in
    let second : more * (w * whole) ≡ now * (num * w) =
    ap (λ (x : ℕ). more * x) (mul_comm w whole) ∙ sym (mul_assoc more whole w) ∙ ap (λ (x : ℕ). x * w) is ∙ ap (λ (x : ℕ). x * w) (mul_comm num now)
    ∙ mul_assoc now num w
    in
    add-mul b more (w * whole) ∙ ap₂ (λ (x y : ℕ). x + y) first second ∙ sym (mul-add now (a * whole) (num * w))

pub grown_first : (w num whole now more : ℕ) → more * whole ≡ num * now → more * (w * whole) ≡ now * (0 * whole + num * w)
grown_first w num whole now more is =
    let none : 0 + more ≡ more = omega arith in
    sym (ap (λ (z : ℕ). z * (w * whole)) none) ∙ grown 0 w num whole 0 now more (omega arith) is

-- A part that is at least some least part is so over another denominator.
pub still_least : (least w x now y b : ℕ) → 0 < w → y * w ≡ x * now → least * w ≤ x * b → least * now ≤ y * b
still_least least w x now y b some same most =
    let across : now * (least * w) ≤ now * (x * b) = mul-le-mul_left now most in
    let right : now * (x * b) ≡ w * (y * b) =
    sym (mul_assoc now x b) ∙ ap (λ (z : ℕ). z * b) (mul_comm now x) ∙ ap (λ (z : ℕ). z * b) (sym same) ∙ ap (λ (z : ℕ). z * b) (mul_comm y w) ∙ mul_assoc w y b
    in
    let left : w * (least * now) ≡ now * (least * w) = turned w least now in
    let all : w * (least * now) ≤ w * (y * b) = omega (arith, across, right, left) in
    le_of_mul-le-mul_left all some

-- A part that is at most so many least parts is so over another denominator.
pub still_most : (ways least w x now y b : ℕ) → 0 < w → y * w ≡ x * now → x * b ≤ ways * (least * w) → y * b ≤ ways * (least * now)
still_most ways least w x now y b some same most =
    let across : now * (x * b) ≤ now * (ways * (least * w)) = mul-le-mul_left now most in
    let left : now * (x * b) ≡ w * (y * b) =
    sym (mul_assoc now x b) ∙ ap (λ (z : ℕ). z * b) (mul_comm now x) ∙ ap (λ (z : ℕ). z * b) (sym same) ∙ ap (λ (z : ℕ). z * b) (mul_comm y w) ∙ mul_assoc w y b
    in
    let right : now * (ways * (least * w)) ≡ w * (ways * (least * now)) =
    moved now ways (least * w) ∙ ap (λ (z : ℕ). ways * z) (turned now least w) ∙ moved ways w (least * now)
    in
    let all : w * (y * b) ≤ w * (ways * (least * now)) = omega (arith, across, right, left) in
    le_of_mul-le-mul_left all some

-- A part that has got another one is at least the least part, if that one is.
pub least_grown : (least a w num whole y now b : ℕ) → 0 < w → 0 < whole → y * (w * whole) ≡ now * (a * whole + num * w) → least * whole ≤ num * b → least * now ≤ y * b
least_grown least a w num whole y now b some has is probable =
    let more : now * (num * w) ≤ now * (a * whole + num * w) = mul-le-mul_left now (omega arith) in
    let less : now * (num * w) ≤ y * (w * whole) = omega (arith, more, is) in
    let scaled : b * (now * (num * w)) ≤ b * (y * (w * whole)) = mul-le-mul_left b less in
    let at : now * w * (least * whole) ≤ now * w * (num * b) = mul-le-mul_left (now * w) probable in
    let one : now * w * (least * whole) ≡ w * whole * (least * now) =
    mul_comm (now * w) (least * whole) ∙ mul_assoc least whole (now * w) ∙ ap (λ (z : ℕ). least * z) (turned whole now w) ∙ sym (moved (w * whole) least now ∙ ap (λ (z : ℕ). least * z) (mul_assoc w whole now ∙ ap (λ (z : ℕ). w * z) (mul_comm whole now)))
    in
    let two : now * w * (num * b) ≡ b * (now * (num * w)) =
    mul_assoc now w (num * b) ∙ ap (λ (z : ℕ). now * z) (turned w num b) ∙ moved now b (num * w)
    in
    let three : b * (y * (w * whole)) ≡ w * whole * (y * b) = turned b y (w * whole) in
    let all : w * whole * (least * now) ≤ w * whole * (y * b) = omega (arith, scaled, at, one, two, three) in
    le_of_mul-le-mul_left all (both_positive w whole some has)

-- What is left out is at most one least part more, if what is added is below it.
pub most_grown : (ways least a w num whole y now b : ℕ) → 0 < w → 0 < whole → y * (w * whole) ≡ now * (a * whole + num * w) → num * b < least * whole
    → a * b ≤ ways * (least * w) → y * b ≤ (ways + 1) * (least * now)
most_grown ways least a w num whole y now b some has is below most =
    let first : now * whole * (a * b) ≤ now * whole * (ways * (least * w)) = mul-le-mul_left (now * whole) most in
    let second : now * w * (num * b) ≤ now * w * (least * whole) = mul-le-mul_left (now * w) (omega (arith, below)) in
    let sum : w * whole * (y * b) ≡ now * whole * (a * b) + now * w * (num * b) =
    sym (mul_assoc (w * whole) y b) ∙ ap (λ (z : ℕ). z * b) (mul_comm (w * whole) y) ∙ ap (λ (z : ℕ). z * b) is ∙ mul_assoc now (a * whole + num * w) b
    ∙ ap (λ (z : ℕ). now * z) (add-mul (a * whole) (num * w) b) ∙ mul-add now (a * whole * b) (num * w * b)
    ∙ ap₂ (λ (x z : ℕ). x + z) (part a whole) (part num w)
    in
    let one : now * whole * (ways * (least * w)) ≡ ways * (w * whole * (least * now)) = moved (now * whole) ways (least * w) ∙ ap (λ (z : ℕ). ways * z) (over whole w) in
    let two : now * w * (least * whole) ≡ w * whole * (least * now) = over w whole ∙ ap (λ (z : ℕ). z * (least * now)) (mul_comm whole w) in
    let three : w * whole * ((ways + 1) * (least * now)) ≡ ways * (w * whole * (least * now)) + w * whole * (least * now) =
    moved (w * whole) (ways + 1) (least * now) ∙ add-mul ways 1 (w * whole * (least * now)) ∙ ap (λ (z : ℕ). ways * (w * whole * (least * now)) + z) (omega arith)
    in
    let all : w * whole * (y * b) ≤ w * whole * ((ways + 1) * (least * now)) = omega (arith, first, second, sum, one, two, three) in
    le_of_mul-le-mul_left all (both_positive w whole some has)
  where
    part : (c d : ℕ) → now * (c * d * b) ≡ now * d * (c * b)
    part c d = ap (λ (z : ℕ). now * z) (ap (λ (z : ℕ). z * b) (mul_comm c d) ∙ mul_assoc d c b) ∙ sym (mul_assoc now d (c * b))

    over : (c d : ℕ) → now * c * (least * d) ≡ d * c * (least * now)
    over c d = mul_comm (now * c) (least * d) ∙ mul_assoc least d (now * c) ∙ ap (λ (z : ℕ). least * z) (turned d now c ∙ ap (λ (z : ℕ). c * z) (mul_comm now d) ∙ moved c d now ∙ sym (mul_assoc d c now)) ∙ moved least (d * c) now

-- A part and its denominator are multiplied by a number.
pub scaled : (a w more : ℕ) → a * more * w ≡ a * (w * more)
scaled a w more = mul_assoc a more w ∙ ap (λ (z : ℕ). a * z) (mul_comm more w)

-- A probability over a multiple of its denominator.
pub weight_is : (num whole now : ℕ) → whole ∣ now → num * (now / whole) * whole ≡ num * now
weight_is num whole now divides = mul_assoc num (now / whole) whole ∙ ap (λ (x : ℕ). num * x) (div-mul_cancel whole divides)

-- A denominator times what another one has besides a common divisor is a multiple of the other one.
pub divides_scaled : (w whole g : ℕ) → g ∣ w → g ∣ whole → whole ∣ w * (whole / g)
divides_scaled w whole g one other =
    let same : w * (whole / g) ≡ w / g * whole =
    ap (λ (x : ℕ). x * (whole / g)) (sym (div-mul_cancel g one)) ∙ mul_assoc (w / g) g (whole / g) ∙ ap (λ (x : ℕ). w / g * x) (mul-div_cancel' g other)
    in
    subst (λ (x : ℕ). whole ∣ x) (sym same) (dvd-mul_left whole (w / g))

pub some_parts : (whole g : ℕ) → 0 < whole → 0 < g → g ∣ whole → 0 < whole / g
some_parts whole g some has divides =
    let most : g ≤ whole = le_of_dvd some divides in
    let one : 1 ≤ whole / g = le-div 1 whole g has (omega (arith, most)) in
    omega (arith, one)

-- Equality

pub equal-refl : (a : Fraction) → 0 < a.whole → AreEqual a a
equal-refl a p = record { one = p; other = p; cross = refl }

-- Fractions with equal numbers.
pub equal-same : (a b : Fraction) → 0 < a.whole → a ≡ b → AreEqual a b
equal-same a b p e = subst (λ (x : Fraction). AreEqual a x) e (equal-refl a p)

pub equal-sym : {a b : Fraction} → AreEqual a b → AreEqual b a
equal-sym e = record { one = e.other; other = e.one; cross = sym e.cross }

pub equal-trans : {a b c : Fraction} → AreEqual a b → AreEqual b c → AreEqual a c
equal-trans {a} {b} {c} e f =
    record {
      one = e.one;
      other = f.other;
      cross =
          eq_of_mul-eq-mul_left b.whole e.other (a.num * c.whole) (c.num * a.whole)
          (omega (arith, ap (λ (x : ℕ). x * c.whole) e.cross, ap (λ (x : ℕ). x * a.whole) f.cross));
    }

-- Sums

pub plus-positive : (a b : Fraction) → 0 < a.whole → 0 < b.whole → 0 < (plus a b).whole
plus-positive a b p q = both_positive a.whole b.whole p q

pub plus-equal : {a b c d : Fraction} → AreEqual a c → AreEqual b d → AreEqual (plus a b) (plus c d)
plus-equal {a} {b} {c} {d} e f =
    record {
      one = both_positive a.whole b.whole e.one f.one;
      other = both_positive c.whole d.whole e.other f.other;
      cross = omega (arith, ap (λ (x : ℕ). x * (b.whole * d.whole)) e.cross, ap (λ (x : ℕ). x * (a.whole * c.whole)) f.cross);
    }

pub plus-comm : (a b : Fraction) → 0 < a.whole → 0 < b.whole → AreEqual (plus a b) (plus b a)
plus-comm a b p q =
    record {
      one = both_positive a.whole b.whole p q;
      other = both_positive b.whole a.whole q p;
      cross = omega arith;
    }

pub plus-assoc : (a b c : Fraction) → 0 < a.whole → 0 < b.whole → 0 < c.whole → AreEqual (plus (plus a b) c) (plus a (plus b c))
plus-assoc a b c p q r =
    record {
      one = both_positive (a.whole * b.whole) c.whole (both_positive a.whole b.whole p q) r;
      other = both_positive a.whole (b.whole * c.whole) p (both_positive b.whole c.whole q r);
      cross = omega arith;
    }

pub plus-nothing : (a : Fraction) → 0 < a.whole → AreEqual (plus a nothing) a
plus-nothing a p = record { one = both_positive a.whole 1 p (omega arith); other = p; cross = omega arith }

pub nothing-plus : (a : Fraction) → 0 < a.whole → AreEqual (plus nothing a) a
nothing-plus a p = record { one = both_positive 1 a.whole (omega arith) p; other = p; cross = omega arith }

-- Of two fractions over one denominator.
pub plus-over : (m n whole : ℕ) → 0 < whole → AreEqual (record { num = m + n; whole = whole }) (plus (record { num = m; whole = whole }) (record { num = n; whole = whole }))
plus-over m n whole p = record { one = p; other = both_positive whole whole p p; cross = omega arith }

-- Products

pub times-positive : (a b : Fraction) → 0 < a.whole → 0 < b.whole → 0 < (times a b).whole
times-positive a b p q = both_positive a.whole b.whole p q

pub times-equal : {a b c d : Fraction} → AreEqual a c → AreEqual b d → AreEqual (times a b) (times c d)
times-equal {a} {b} {c} {d} e f =
    record {
      one = both_positive a.whole b.whole e.one f.one;
      other = both_positive c.whole d.whole e.other f.other;
      cross = let both = ap₂ (λ (x y : ℕ). x * y) e.cross f.cross in omega (arith, both);
    }

pub times-comm : (a b : Fraction) → 0 < a.whole → 0 < b.whole → AreEqual (times a b) (times b a)
times-comm a b p q =
    record {
      one = both_positive a.whole b.whole p q;
      other = both_positive b.whole a.whole q p;
      cross = omega arith;
    }

pub times-assoc : (a b c : Fraction) → 0 < a.whole → 0 < b.whole → 0 < c.whole → AreEqual (times (times a b) c) (times a (times b c))
times-assoc a b c p q r =
    record {
      one = both_positive (a.whole * b.whole) c.whole (both_positive a.whole b.whole p q) r;
      other = both_positive a.whole (b.whole * c.whole) p (both_positive b.whole c.whole q r);
      cross = omega arith;
    }

pub times-plus : (a b c : Fraction) → 0 < a.whole → 0 < b.whole → 0 < c.whole → AreEqual (times a (plus b c)) (plus (times a b) (times a c))
times-plus a b c p q r =
    record {
      one = both_positive a.whole (b.whole * c.whole) p (both_positive b.whole c.whole q r);
      other = both_positive (a.whole * b.whole) (a.whole * c.whole) (both_positive a.whole b.whole p q) (both_positive a.whole c.whole p r);
      cross = omega arith;
    }

pub plus-times : (a b c : Fraction) → 0 < a.whole → 0 < b.whole → 0 < c.whole → AreEqual (times (plus a b) c) (plus (times a c) (times b c))
plus-times a b c p q r =
    record {
      one = both_positive (a.whole * b.whole) c.whole (both_positive a.whole b.whole p q) r;
      other = both_positive (a.whole * c.whole) (b.whole * c.whole) (both_positive a.whole c.whole p r) (both_positive b.whole c.whole q r);
      cross = omega arith;
    }

pub times-unit : (a : Fraction) → 0 < a.whole → AreEqual (times a unit) a
times-unit a p = record { one = both_positive a.whole 1 p (omega arith); other = p; cross = omega arith }

pub unit-times : (a : Fraction) → 0 < a.whole → AreEqual (times unit a) a
unit-times a p = record { one = both_positive 1 a.whole (omega arith) p; other = p; cross = omega arith }

pub times-nothing : (a : Fraction) → 0 < a.whole → AreEqual (times a nothing) nothing
times-nothing a p = record { one = both_positive a.whole 1 p (omega arith); other = omega arith; cross = omega arith }

pub nothing-times : (a : Fraction) → 0 < a.whole → AreEqual (times nothing a) nothing
nothing-times a p = record { one = both_positive 1 a.whole (omega arith) p; other = omega arith; cross = omega arith }

-- A fraction without parts is none, and a part of it that is multiplied like its whole is the same.
pub no_parts : (whole : ℕ) → 0 < whole → AreEqual (record { num = 0; whole = whole }) nothing
no_parts whole p = record { one = p; other = omega arith; cross = omega arith }

pub scaled-equal : (num whole more : ℕ) → 0 < whole → 0 < more → AreEqual (record { num = num * more; whole = whole * more }) (record { num = num; whole = whole })
scaled-equal num whole more p q = record { one = both_positive whole more p q; other = p; cross = omega arith }

-- Probabilities

pub sum-plus : (a b c : Chance) → IsSum a b c → AreEqual (of_chance c) (plus (of_chance a) (of_chance b))
sum-plus a b c is =
    record {
      one = c.positive;
      other = both_positive a.whole b.whole a.positive b.positive;
      cross = is ∙ omega arith;
    }

-- A weight grows by a probability. (`Grows` of specs/Shares.antt.)
pub grows-plus : (c : Chance) (old whole new now : ℕ) → 0 < whole → 0 < now → new * (whole * c.whole) ≡ now * (old * c.whole + c.num * whole)
    → AreEqual (record { num = new; whole = now }) (plus (record { num = old; whole = whole }) (of_chance c))
grows-plus c old whole new now p q is =
    record {
      one = q;
      other = both_positive whole c.whole p c.positive;
      cross = is ∙ omega arith;
    }

-- It stays the same part. (`IsSamePart` of specs/Shares.antt.)
pub same-equal : (old whole new now : ℕ) → 0 < whole → 0 < now → new * whole ≡ old * now → AreEqual (record { num = new; whole = now }) (record { num = old; whole = whole })
same-equal old whole new now p q is = record { one = q; other = p; cross = is }
