use Rattle.gen1_layout.proofs.Words.{conditions_in, goes, if_not, if_so, lit<, put_on_conditions, refl, stays, sym, ◌∙◌}
use Rattle.gen1_machine.specs.Conditions.{without_charging}
use Rattle.gen1_machine.specs.Gate.{disabled_test}
use Rattle.gen1_status.proofs.Statuses.{charging-same}
use Rattle.gen1_status.proofs.gate_tests.by_move.disabled_test.Goals as goal

pub returns-then-not-is_disabled-clause-shown : goal.returns-then-not-is_disabled-clause-shown
unfolding disabled_test
returns-then-not-is_disabled-clause-shown t c g p h =
    if_not _ _ _ (sym (c.is_disabled.ensures.stands _ p.field h.within) ∙ c.if-not-is_disabled.true) (stays h)

pub returns-clause-shown : goal.returns-clause-shown
unfolding disabled_test without_charging
returns-clause-shown t c g p h =
    let w = c.put_flag.ensures.stands 4 refl (lit< tt) _ p.field without_charging h.within refl (charging-same (conditions_in c.args.side p.field)) in
    let a = put_on_conditions h c.args.side without_charging w in
    if_so _ _ _ (sym (c.is_disabled.ensures.stands _ p.field h.within) ∙ c.if-not-is_disabled.false) (goes _ _ a (c.cant.ensures.shown _ _ a))
