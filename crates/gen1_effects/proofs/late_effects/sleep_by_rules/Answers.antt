use Rattle.std.proofs.Common.{sym, ◌∙◌}
use Rattle.gen1_effects.proofs.LateEffects.{sleeps-any, sleeps-one}
use Rattle.gen1_effects.proofs.late_effects.sleep_by_rules.Goals as goal

pub returns-then-sleep_clause-clause-shown : goal.returns-then-sleep_clause-clause-shown
returns-then-sleep_clause-clause-shown t c since g p h =
    let on = sym (c.sleep_clause.ensures.stands g.setting p.field h.shows.within) ∙ c.if-sleep_clause.true in
    rw (sleeps-one _ c.args.side p on) (c.sleep_only_one.ensures.shown since g p on h)

pub returns-clause-shown : goal.returns-clause-shown
returns-clause-shown t c since g p h =
    let off = sym (c.sleep_clause.ensures.stands g.setting p.field h.shows.within) ∙ c.if-sleep_clause.false in
    rw (sleeps-any _ c.args.side p off, ← c.other.ensures) (c.fall_asleep.ensures.shown since g p off h)
