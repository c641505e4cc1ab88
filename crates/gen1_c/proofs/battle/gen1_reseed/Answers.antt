use Rattle.std.proofs.Common.{arith, refl, sym, subst, ◌∙◌}
use Rattle.std.proofs.lemmas.Bool.Decides.{nat_tests}
use Rattle.gen1_rolls.specs.Steady.{Ring}
use Rattle.gen1_layout.specs.Shows.{Stands}
use Rattle.gen1_engine.specs.Update.{reseeded}
use Rattle.gen1_c.proofs.Updates.{let_through}
use Rattle.gen1_c.proofs.Writing.{none_through}
use Rattle.gen1_c.proofs.battle.gen1_reseed.Goals as goal

pub returns-in-Some-clause-stands : goal.returns-in-Some-clause-stands
returns-in-Some-clause-stands c low s h =
    let ring = let_through _ _ _ (sym c.from_parts.ensures.value ∙ c.in-Some.is) in
    (refl, subst (λ (ring : Ring). Stands c.reseed.new.battle (reseeded ring s)) ring.1 (c.reseed.ensures.stands s h))

pub returns-in-Some-clause-above : goal.returns-in-Some-clause-above
returns-in-Some-clause-above c high =
    let ring = let_through _ _ _ (sym c.from_parts.ensures.value ∙ c.in-Some.is) in
    let test = ring.0 in absurd (grind (arith, nat_tests))

pub returns-in-None-clause-stands : goal.returns-in-None-clause-stands
returns-in-None-clause-stands c low s h =
    let test = none_through _ _ (sym c.from_parts.ensures.value ∙ c.in-None.is) in absurd (grind (arith, nat_tests))

pub returns-in-None-clause-below : goal.returns-in-None-clause-below
returns-in-None-clause-below c low =
    let test = none_through _ _ (sym c.from_parts.ensures.value ∙ c.in-None.is) in absurd (grind (arith, nat_tests))
