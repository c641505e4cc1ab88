use Rattle.std.proofs.Common.{ap, arith, cond, inl, inr, max, min, nat_le, nat_lt, refl, ◌&&◌, ◌*◌, ◌+◌, ◌-◌, ◌/◌, ◌<◌, ◌≡◌, ◌≤◌, ◌∙◌, ◌⊎◌, ℕ}
use Rattle.std.proofs.Math.Nat.{le-div_iff_mul-le, mul-add, mul_comm}
use Rattle.std.proofs.lemmas.Bool.Decides.{nat_tests}
use Rattle.std.proofs.lemmas.Nat.Bits.{bit_at-lt}
use Rattle.gen1_rolls.specs.Streams.{rotated_right_1}
use Rattle.gen1_outcomes.specs.Bytes.{has, least_factor}
use Rattle.gen1_outcomes.proofs.Sets.{same_test}
use Rattle.gen1_outcomes.proofs.alike.making.Goals.{else-run-limit, then-run-limit}
use Rattle.gen1_outcomes.proofs.alike.making.Goals as goal

-- A factor is below the least one that makes a part exactly if it makes less.
le_or : (m n : ℕ) → (m ≤ n) ⊎ (n < m)
le_or m n = grind arith

below_least : (damage part f : ℕ) → 0 < damage → nat_lt f (least_factor damage part) ≡ nat_lt (damage * f / 255) part
below_least damage part f some =
    let most = part * 255 + (damage - 1) in
    let same : max damage 1 ≡ damage = omega (arith, some) in
    let next : (f + 1) * damage ≡ damage * f + damage = mul_comm (f + 1) damage ∙ mul-add damage f 1 ∙ omega arith in
    let is = le-div_iff_mul-le {k = damage} {x = f + 1} {y = most} some in
    ap (λ (n : ℕ). nat_lt f (most / n)) same
    ∙ same_test f (most / damage) (damage * f / 255) part
    (λ h. let far : (f + 1) * damage ≤ most = is.0 (omega (arith, h)) in omega (arith, far, next, some))
    (λ h.
    elim (le_or ((f + 1) * damage) most) [
      | inl far ↦ let less : f + 1 ≤ most / damage = is.1 far in absurd (omega (arith, h, less))
      | inr more ↦ omega (arith, more, next, some)
    ])

-- The factors from the least one that makes the first part up to that of the part after the last, or all from there on at the limit.
makes : (damage limit lo hi f next n below first : ℕ) → 0 < damage → lo ≤ limit → f < 256 → n < 2
    → next ≡ cond (nat_lt hi limit) (min (least_factor damage (hi + 1)) 256) 256
    → below ≡ cond (nat_lt f next) 1 0 → first ≡ cond (nat_lt f (min (least_factor damage lo) 256)) 1 0
    → min n below - first ≡ cond (nat_le lo (min (damage * f / 255) limit) && nat_le (min (damage * f / 255) limit) hi) n 0
makes damage limit lo hi f next n below first some within small bit is e g =
    let one = below_least damage lo f some in
    let two = below_least damage (hi + 1) f some in
    grind (arith, nat_tests, one, two, within, small, bit, is, e, g)

pub returns : goal.returns
returns c x lt =
    let damage = c.args.damage in
    let last = c.args.run.last in
    let next_is : c.if-run-limit.next ≡ cond (nat_lt last c.args.limit) (min (least_factor damage (last + 1)) 256) 256 =
    elim c.if-run-limit.branch [
      | then-run-limit w ↦ grind (arith, nat_tests, w.next-is, w.min.ensures, w.least_factor-then-run-limit.ensures.value, w.if-run-limit.true)
      | else-run-limit w ↦ grind (arith, nat_tests, w.next-is, w.if-run-limit.false)
    ]
    in
    c.rotated_right_between.ensures x lt
    ∙ makes damage c.args.limit c.args.run.first last (rotated_right_1 x) c.if-run-limit.next (has c.args.among.now x) _ _ c.requires.damage c.requires.within (omega (arith, lt))
    (bit_at-lt _ _) next_is refl
    (ap (λ (n : ℕ). cond (nat_lt (rotated_right_1 x) n) 1 0) (c.min-first.ensures ∙ ap (λ (n : ℕ). min n 256) c.least_factor.ensures.value))
