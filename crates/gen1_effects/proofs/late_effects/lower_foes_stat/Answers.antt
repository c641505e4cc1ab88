use Rattle.gen1_layout.proofs.Words.{Side, ap, conditions_in, drawn_goes, drawn_if_not, drawn_if_so, drawn_settled, drawn_stays, drawn_stops, is_some, refl, stay, sym, ◌∙◌}
use Rattle.gen1_machine.specs.LateEffects.{lower_foes_stat}
use Rattle.gen1_machine.specs.Progress.{fail, fails_if, has_substitute}
use Rattle.gen1_machine.specs.Sides.{other}
use Rattle.gen1_hits.proofs.Knowledge.{plain_still}
use Rattle.gen1_effects.proofs.late_effects.lower_foes_stat.Goals as goal

pub returns-then-is_on-clause-shown : goal.returns-then-is_on-clause-shown
unfolding lower_foes_stat fails_if
returns-then-is_on-clause-shown t c by since g p h =
    let on = sym (c.is_on.ensures.stands 9 refl _ p.field h.shows.within) ∙ c.if-is_on.true in
    rw (← c.other-foe.ensures) (drawn_stops _ _ (drawn_if_so _ _ _ on (plain_still c.args.known.now g _ c.fail.ensures.shown h)))

pub returns-then-must_hit-clause-shown : goal.returns-then-must_hit-clause-shown
unfolding lower_foes_stat fails_if
returns-then-must_hit-clause-shown t c by since g p h =
    let off = sym (c.is_on.ensures.stands 9 refl _ p.field h.shows.within) ∙ c.if-is_on.false in
    let a = drawn_if_not (has_substitute c.other-foe.result) (fail c.args.side) stay off (drawn_stays h) in
    rw (← c.other-foe.ensures) (drawn_goes _ _ a (drawn_stops _ _ (drawn_settled c.if-must_hit.true (c.must_hit.ensures.shown since g _ a))))

pub returns-clause-shown : goal.returns-clause-shown
unfolding lower_foes_stat fails_if
returns-clause-shown t c by since g p h =
    let foe = ap (λ (s : Side). is_some (conditions_in s p.field).substitute) c.other-foe.ensures in
    let off = sym (c.is_on.ensures.stands 9 refl _ p.field h.shows.within ∙ foe) ∙ c.if-is_on.false in
    let a = drawn_if_not (has_substitute (other c.args.side)) (fail c.args.side) stay off (drawn_stays h) in
    let b = drawn_settled c.if-must_hit.false (c.must_hit.ensures.shown since g _ a) in
    drawn_goes _ _ a (drawn_goes _ _ b (plain_still c.must_hit.new.known g _ (c.lower_unless_away.ensures.shown by) b))
