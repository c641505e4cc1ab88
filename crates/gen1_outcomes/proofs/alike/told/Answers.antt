use Rattle.std.proofs.Common.{◌≡◌, ◌≢◌, ℕ, ◌*◌, ◌-◌, ◌<◌, ◌≤◌, ◌==◌, Bool, true, false, arith, max, nat_le, refl, subst, sym, ◌∙◌}
use Rattle.std.proofs.Math.Nat.{div-lt_iff_lt-mul, div-le_of_le-mul, mul-le-mul_left, mul-le-mul_right}
use Rattle.gen1_rolls.specs.declared.rolls.Look.{Look}
use Rattle.gen1_rolls.specs.declared.rolls.Look.TheVariants.{Factor}
use Rattle.gen1_rolls.specs.Streams.{rotated_right_1, sees}
use Rattle.gen1_outcomes.specs.Bytes.{KeepsEdgeApart, class_of, damage_by, least_factor, part_told, told}
use Rattle.gen1_outcomes.proofs.alike.told.Goals as goal

-- A roll makes no more damage than it begins with.
damage_most : (damage b : ℕ) → b < 256 → damage_by damage b ≤ damage
damage_most damage b lt =
    let few : rotated_right_1 b ≤ 255 = omega (arith, lt) in
    let most : damage * rotated_right_1 b ≤ damage * 255 = mul-le-mul_left damage few in
    div-le_of_le-mul 255 (omega (arith, most))

-- Its least factor is one of a byte.
factor_most : (damage part : ℕ) → part ≤ damage → least_factor damage part < 256
factor_most damage part le =
    let positive : 0 < max damage 1 = omega arith in
    (div-lt_iff_lt-mul positive).1 (omega (arith, le))

-- There are at most n classes on each side.
class_few : (n damage part : ℕ) → n ≢ 0 → part ≤ damage → class_of n damage part < n
class_few n damage part ne le =
    let few : least_factor damage part - 217 ≤ 38 = omega (arith, factor_most damage part le) in
    let most : (least_factor damage part - 217) * n ≤ 38 * n = mul-le-mul_right n few in
    omega (arith, most, ne)

-- What is seen reaches the edge where the damage does.
seen_reaches : (damage edge : ℕ) (cut : Bool) (b : ℕ) → edge ≤ 65535 → nat_le edge (sees (Factor damage edge cut) b) ≡ nat_le edge (damage_by damage b)
seen_reaches damage edge true b le = grind (arith, le)
seen_reaches damage edge false b le = grind (arith, le)

parts_apart : (n damage edge s t : ℕ) → s ≤ damage → t ≤ damage → part_told n damage edge s ≡ part_told n damage edge t → nat_le edge s ≡ nat_le edge t
parts_apart n damage edge s t few less same = by (n == 0) refl
  where
    by : (b : Bool) → (n == 0) ≡ b → nat_le edge s ≡ nat_le edge t
    by true is = grind (arith, is, same)
    by false is =
        let ne : n ≢ 0 = grind (arith, is) in
        grind (arith, is, same, class_few n damage s ne few, class_few n damage t ne less)

classes_apart : (n : ℕ) (look : Look) → KeepsEdgeApart n look
classes_apart n look damage edge cut is le x y x_lt y_lt same =
    let s = sees (Factor damage edge cut) x in
    let t = sees (Factor damage edge cut) y in
    let told_same : part_told n damage edge s ≡ part_told n damage edge t = subst (λ (l : Look). told n l x ≡ told n l y) is same in
    let few : s ≤ damage = omega (arith, damage_most damage x x_lt) in
    let less : t ≤ damage = omega (arith, damage_most damage y y_lt) in
    sym (seen_reaches damage edge cut x le) ∙ parts_apart n damage edge s t few less told_same ∙ seen_reaches damage edge cut y le

pub returns-in-Factor-clause-apart : goal.returns-in-Factor-clause-apart
returns-in-Factor-clause-apart c = classes_apart c.args.damage_classes c.args.look
