use Rattle.gen1_layout.proofs.Words.{packed_of, ◌∙◌}
use Rattle.gen1_layout.proofs.WaysBack.{rules_back}
use Rattle.gen1_layout.proofs.packed.Packed.rules.Goals as goal

pub returns-in-Some-clause-packs : goal.returns-in-Some-clause-packs
returns-in-Some-clause-packs c g f h =
    let e = rw (c.header.ensures.packs g f h) at c.in-Some.ensures in let is = e ∙ rules_back g.terms.rules in cc

pub returns-in-Some-clause-stands : goal.returns-in-Some-clause-stands
returns-in-Some-clause-stands c g f h = returns-in-Some-clause-packs c g f (packed_of h)

pub returns-in-None-clause-packs : goal.returns-in-None-clause-packs
returns-in-None-clause-packs c g f h =
    let e = rw (c.header.ensures.packs g f h) at c.in-None.ensures in let is = e ∙ rules_back g.terms.rules in cc

pub returns-in-None-clause-stands : goal.returns-in-None-clause-stands
returns-in-None-clause-stands c g f h = returns-in-None-clause-packs c g f (packed_of h)
