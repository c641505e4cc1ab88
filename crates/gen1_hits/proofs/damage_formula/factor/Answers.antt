use Rattle.std.proofs.Common.{◌≡◌}
use Rattle.gen1_layout.proofs.Words.{ap, arith, set_last_damage, ℕ, ◌∙◌}
use Rattle.gen1_hits.proofs.damage_formula.factor.Goals as goal

-- No damage is above the limit, so the two are equal.
pub returns-clause-varies : goal.returns-clause-varies
returns-clause-varies g c since n a =
    let v = c.factor_up_to.ensures.varies since n a in
    let same : v.dealt ≡ c.factor_up_to.result = omega (arith, v.alike, v.most, c.factor_up_to.ensures.most) in
    record { drawn = v.drawn; stands = v.stands; sets = λ p one two. v.sets p one two ∙ ap (λ (k : ℕ). set_last_damage k (record p { drawn = v.drawn })) same }
