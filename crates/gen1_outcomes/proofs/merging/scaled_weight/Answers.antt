use Rattle.std.proofs.Common.{ap, subst, sym, ◌∙◌, ℕ, ◌*◌}
use Rattle.std.specs.Int.{◌∣◌}
use Rattle.std.proofs.lemmas.Nat.Gcd.{dvd_of_mod-eq-zero}
use Rattle.gen1_outcomes.specs.declared.merging.Tally.{Tally}
use Rattle.gen1_outcomes.proofs.Fractions.{divides_scaled, some_parts, weight_is}
use Rattle.gen1_outcomes.proofs.merging.scaled_weight.Goals.{else-tally-chance-ne0, then-tally-chance-ne0+in_ok-scale}
use Rattle.gen1_outcomes.proofs.merging.scaled_weight.Goals as goal

pub scale-requires-clause-some : goal.scale-requires-clause-some
scale-requires-clause-some c =
    some_parts c.args.chance.whole c.common_divisor.result c.args.chance.positive c.common_divisor.ensures.positive c.common_divisor.ensures.greatest.1

pub returns-in-Some-clause-weight : goal.returns-in-Some-clause-weight
returns-in-Some-clause-weight c =
    let whole = c.args.chance.whole in
    let now = c.if-tally-chance-ne0.tally.whole in
    let divides : whole ∣ now =
    elim c.if-tally-chance-ne0.branch [
      | then-tally-chance-ne0+in_ok-scale w ↦
          subst (λ (x : ℕ). whole ∣ x) (sym (ap (λ (t : Tally). t.whole) w.tally-is ∙ w.in_ok-scale.ensures.whole))
          (divides_scaled c.args.tally.now.whole whole w.common_divisor.result w.common_divisor.ensures.greatest.0 w.common_divisor.ensures.greatest.1)
      | else-tally-chance-ne0 w ↦
          subst (λ (x : ℕ). whole ∣ x) (sym (ap (λ (t : Tally). t.whole) w.tally-is)) (dvd_of_mod-eq-zero whole w.if-tally-chance-ne0.false)
    ]
    in
    ap (λ (x : ℕ). x * whole) c.in-Some.ensures.1 ∙ weight_is c.args.chance.num whole now divides
