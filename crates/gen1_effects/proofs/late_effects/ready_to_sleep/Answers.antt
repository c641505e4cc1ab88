use Rattle.gen1_layout.proofs.Words.{ap, conditions_in, drawn_goes, drawn_if_not, drawn_if_so, drawn_stays, drawn_stops, lit<, on_conditions, put_on_conditions, refl, stay, sym, ◌∙◌}
use Rattle.std.proofs.Common.{not}
use Rattle.gen1_stats.specs.Members.{is_healthy}
use Rattle.gen1_machine.specs.Conditions.{without_recharge}
use Rattle.gen1_machine.specs.LateEffects.{ready_to_sleep}
use Rattle.gen1_machine.specs.Progress.{fail, fails_if, has_status}
use Rattle.gen1_status.proofs.Statuses.{recharge-same}
use Rattle.gen1_hits.proofs.Knowledge.{plain_still}
use Rattle.gen1_effects.proofs.late_effects.ready_to_sleep.Goals as goal

pub returns-then-is_on-clause-shown : goal.returns-then-is_on-clause-shown
unfolding ready_to_sleep without_recharge
returns-then-is_on-clause-shown t c since g p h =
    let foe = c.other-foe.result in
    let on = sym (c.is_on.ensures.stands 10 refl _ p.field h.shows.within) ∙ c.if-is_on.true in
    rw (← c.other-foe.ensures)
    (drawn_if_so _ _ _ on (plain_still c.args.known.now g (on_conditions foe without_recharge)
    (λ x q k. put_on_conditions k foe without_recharge
    (c.put_flag.ensures.stands 10 refl (lit< tt) _ q.field without_recharge k.within refl (recharge-same (conditions_in foe q.field)))) h))

pub returns-then-not-is_healthy-clause-shown : goal.returns-then-not-is_healthy-clause-shown
unfolding ready_to_sleep fails_if
returns-then-not-is_healthy-clause-shown t c since g p h =
    let off = sym (c.is_on.ensures.stands 10 refl _ p.field h.shows.within) ∙ c.if-is_on.false in
    let ill = ap not (sym (c.is_healthy.ensures ∙ ap is_healthy (c.status.ensures.stands _ p.field h.shows.within)) ∙ c.if-not-is_healthy.true) in
    rw (← c.other-foe.ensures)
    (drawn_if_not _ _ _ off (drawn_stops _ _ (drawn_if_so _ _ _ ill (plain_still c.args.known.now g _ c.fail.ensures.shown h))))

pub returns-clause-shown : goal.returns-clause-shown
unfolding ready_to_sleep fails_if
returns-clause-shown t c since g p h =
    let off = sym (c.is_on.ensures.stands 10 refl _ p.field h.shows.within) ∙ c.if-is_on.false in
    let healthy = ap not (sym (c.is_healthy.ensures ∙ ap is_healthy (c.status.ensures.stands _ p.field h.shows.within)) ∙ c.if-not-is_healthy.false) in
    let a = drawn_if_not (has_status c.other-foe.result) (fail c.args.side) stay healthy (drawn_stays h) in
    rw (← c.other-foe.ensures) (drawn_if_not _ _ _ off (drawn_goes _ _ a (c.must_hit.ensures.shown since g _ a)))
