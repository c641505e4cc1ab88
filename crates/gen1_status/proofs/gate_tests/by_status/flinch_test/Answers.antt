use Rattle.gen1_layout.proofs.Words.{conditions_in, goes, if_not, if_so, lit<, put_on_conditions, refl, stays, sym, ◌∙◌}
use Rattle.gen1_machine.specs.Conditions.{without_flinch}
use Rattle.gen1_machine.specs.Gate.{flinch_test}
use Rattle.gen1_status.proofs.Statuses.{flinch-same}
use Rattle.gen1_status.proofs.gate_tests.by_status.flinch_test.Goals as goal

pub returns-then-not-is_on-clause-shown : goal.returns-then-not-is_on-clause-shown
unfolding flinch_test
returns-then-not-is_on-clause-shown t c g p h = if_not _ _ _ (sym (c.is_on.ensures.stands 3 refl _ p.field h.within) ∙ c.if-not-is_on.true) (stays h)

pub returns-clause-shown : goal.returns-clause-shown
unfolding flinch_test without_flinch
returns-clause-shown t c g p h =
    let w = c.put_flag.ensures.stands 3 refl (lit< tt) _ p.field without_flinch h.within refl (flinch-same (conditions_in c.args.side p.field)) in
    let a = put_on_conditions h c.args.side without_flinch w in
    if_so _ _ _ (sym (c.is_on.ensures.stands 3 refl _ p.field h.within) ∙ c.if-not-is_on.false) (goes _ _ a (c.cant.ensures.shown _ _ a))
