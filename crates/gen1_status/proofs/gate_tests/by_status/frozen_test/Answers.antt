use Rattle.gen1_layout.proofs.Words.{ap, if_not, if_so, stays, sym, ◌∙◌}
use Rattle.gen1_stats.specs.Members.{is_frozen}
use Rattle.gen1_machine.specs.Gate.{frozen_test}
use Rattle.gen1_status.proofs.gate_tests.by_status.frozen_test.Goals as goal

pub returns-then-not-is_frozen-clause-shown : goal.returns-then-not-is_frozen-clause-shown
unfolding frozen_test
returns-then-not-is_frozen-clause-shown t c g p h =
    if_not _ _ _ (sym (c.is_frozen.ensures ∙ ap is_frozen (c.status.ensures.stands _ _ h.within)) ∙ c.if-not-is_frozen.true) (stays h)

pub returns-clause-shown : goal.returns-clause-shown
unfolding frozen_test
returns-clause-shown t c g p h =
    if_so _ _ _ (sym (c.is_frozen.ensures ∙ ap is_frozen (c.status.ensures.stands _ _ h.within)) ∙ c.if-not-is_frozen.false) (c.cant.ensures.shown _ _ h)
