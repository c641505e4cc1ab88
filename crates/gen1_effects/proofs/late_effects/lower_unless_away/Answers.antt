use Rattle.gen1_layout.proofs.Words.{goes, if_not, if_so, refl, stay, stays, stops, sym, ◌∙◌}
use Rattle.gen1_machine.specs.Progress.{fail, fails_if, is_invulnerable}
use Rattle.gen1_machine.specs.StageShift.{lower_stage}
use Rattle.gen1_status.proofs.Shifting.{fails, succeeds}
use Rattle.gen1_effects.proofs.late_effects.lower_unless_away.Goals as goal

pub returns-then-is_on-clause-shown : goal.returns-then-is_on-clause-shown
unfolding fails_if
returns-then-is_on-clause-shown t c by g p h =
    rw (← c.other-foe.ensures) (stops _ _ (if_so _ _ _ (sym (c.is_on.ensures.stands 5 refl _ p.field h.within) ∙ c.if-is_on.true) (c.fail.ensures.shown g p h)))

pub returns-then-lower_stage-clause-shown : goal.returns-then-lower_stage-clause-shown
unfolding fails_if
returns-then-lower_stage-clause-shown t c by g p h =
    let s = c.args.side in
    let foe = c.other-foe.result in
    let a = if_not (is_invulnerable foe) (fail s) stay (sym (c.is_on.ensures.stands 5 refl _ p.field h.within) ∙ c.if-is_on.false) (stays h) in
    rw (← c.other-foe.ensures)
    (goes _ _ a (succeeds (lower_stage s foe c.args.stat c.args.by) c.if-lower_stage.true (c.lower_stage.ensures.shown by (fail s) g _ a)))

pub returns-clause-shown : goal.returns-clause-shown
unfolding fails_if
returns-clause-shown t c by g p h =
    let s = c.args.side in
    let foe = c.other-foe.result in
    let a = if_not (is_invulnerable foe) (fail s) stay (sym (c.is_on.ensures.stands 5 refl _ p.field h.within) ∙ c.if-is_on.false) (stays h) in
    rw (← c.other-foe.ensures)
    (goes _ _ a (fails (lower_stage s foe c.args.stat c.args.by) c.if-lower_stage.false (c.lower_stage.ensures.shown by (fail s) g _ a)
    (λ q b. c.fail-2.ensures.shown g q b)))
