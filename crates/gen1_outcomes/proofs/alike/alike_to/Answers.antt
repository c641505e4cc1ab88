use Rattle.std.proofs.Common.{ap, arith, cond, min, sym, Bool, ℕ, ◌*◌, ◌==◌, ◌≡◌, ◌≤◌, ◌∙◌}
use Rattle.std.proofs.Math.Nat.{mul-le-mul_left}
use Rattle.gen1_rolls.specs.declared.rolls.Look.{Look}
use Rattle.gen1_rolls.specs.declared.rolls.Look.TheVariants.{Factor}
use Rattle.gen1_rolls.specs.Streams.{rotated_right_1, sees}
use Rattle.gen1_outcomes.specs.Bytes.{has, alike_in, damage_by, part_told}
use Rattle.gen1_outcomes.proofs.alike.alike_to.Goals as goal

pub returns-in-Factor : goal.returns-in-Factor
returns-in-Factor c x lt =
    let n = c.args.damage_classes in
    let d = c.in-Factor.damage in
    let told = λ (part : ℕ). part_told n d c.in-Factor.edge part in
    let q = min (damage_by d x) c.limit_of.result in
    let most : d * rotated_right_1 x ≤ d * 255 = mul-le-mul_left d (omega (arith, lt)) in
    let alike : (told c.sees.result == told q) ≡ alike_in n c.args.look c.args.byte x =
    ap (λ (p : ℕ). told p == told q) (c.sees.ensures ∙ ap (λ (l : Look). sees l c.args.byte) c.in-Factor.is)
    ∙ ap (λ (m : ℕ). told (sees (Factor d c.in-Factor.edge c.in-Factor.cut) c.args.byte) == told (min (damage_by d x) m)) c.limit_of.ensures
    ∙ ap (λ (l : Look). alike_in n l c.args.byte x) (sym c.in-Factor.is)
    in
    c.making.ensures x lt ∙ ap (λ (b : Bool). cond b (has c.args.among.now x) 0) (sym (c.run_of-run.ensures.run q (omega (arith, most))) ∙ alike)
