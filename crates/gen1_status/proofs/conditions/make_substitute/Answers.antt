use Rattle.gen1_layout.proofs.Words.{arith, if_so, past, refl, seeing, stops, sym, ◌∙◌}
use Rattle.gen1_machine.specs.EarlyEffects.{make_substitute, pay_for_substitute}
use Rattle.gen1_machine.specs.Progress.{fails_if}
use Rattle.gen1_status.proofs.Statuses.{below, not_below}
use Rattle.gen1_status.proofs.conditions.make_substitute.Goals as goal

pub returns-then-is_on-clause-shown : goal.returns-then-is_on-clause-shown
unfolding make_substitute fails_if
returns-then-is_on-clause-shown t c g p h =
    stops _ _ (if_so _ _ _ (sym (c.is_on.ensures.stands 9 refl _ p.field h.within) ∙ c.if-is_on.true) (c.fail.ensures.shown g p h))

pub returns-then-hp-from-clause-shown : goal.returns-then-hp-from-clause-shown
unfolding make_substitute fails_if
returns-then-hp-from-clause-shown t c g p h =
    let none = sym (c.is_on.ensures.stands 9 refl _ p.field h.within) ∙ c.if-is_on.false in
    let hp = c.hp.ensures.stands _ p.field h.within in
    let cost = c.quarter-cost.ensures.stands _ p.field h.within in
    past _ _ _ none h (stops _ _ (if_so _ _ _ (below _ _ (omega (arith, hp, cost, c.from.ensures, c.if-hp-from.true))) (c.fail-then-hp-from.ensures.shown g p h)))

pub returns-clause-shown : goal.returns-clause-shown
unfolding make_substitute fails_if
returns-clause-shown t c g p h =
    let none = sym (c.is_on.ensures.stands 9 refl _ p.field h.within) ∙ c.if-is_on.false in
    let hp = c.hp.ensures.stands _ p.field h.within in
    let cost = c.quarter-cost.ensures.stands _ p.field h.within in
    past _ _ _ none h (past _ _ _ (not_below _ _ (omega (arith, hp, cost, c.from.ensures, c.if-hp-from.false))) h
    (seeing _ (pay_for_substitute c.args.side) cost (c.pay_for_substitute.ensures.shown g p h)))
