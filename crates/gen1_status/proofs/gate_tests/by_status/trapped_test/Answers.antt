use Rattle.gen1_layout.proofs.Words.{Side, ap, if_not, if_so, is_some, refl, stays, sym, underway_in, ◌∙◌}
use Rattle.gen1_machine.specs.Gate.{trapped_test}
use Rattle.gen1_status.proofs.gate_tests.by_status.trapped_test.Goals as goal

pub returns-then-not-is_on-clause-shown : goal.returns-then-not-is_on-clause-shown
unfolding trapped_test
returns-then-not-is_on-clause-shown t c g p h =
    let foe = ap (λ (s : Side). is_some (underway_in s p.field).trapping) c.other.ensures in
    if_not _ _ _ (sym (c.is_on.ensures.stands 2 refl _ p.field h.within ∙ foe) ∙ c.if-not-is_on.true) (stays h)

pub returns-clause-shown : goal.returns-clause-shown
unfolding trapped_test
returns-clause-shown t c g p h =
    let foe = ap (λ (s : Side). is_some (underway_in s p.field).trapping) c.other.ensures in
    if_so _ _ _ (sym (c.is_on.ensures.stands 2 refl _ p.field h.within ∙ foe) ∙ c.if-not-is_on.false) (c.cant.ensures.shown _ _ h)
