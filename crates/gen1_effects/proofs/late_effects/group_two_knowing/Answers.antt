use Rattle.std.proofs.Common.{ap, sym, ◌∙◌}
use Rattle.gen1_tables.specs.Effects.{bides}
use Rattle.gen1_machine.specs.LateEffects.{lower_foes_stat, put_to_sleep, start_bide}
use Rattle.gen1_machine.specs.Moves.{move_at}
use Rattle.gen1_machine.specs.Progress.{fail}
use Rattle.gen1_machine.specs.Ruling.{ruling_of}
use Rattle.gen1_machine.specs.StageShift.{raise_stage}
use Rattle.gen1_hits.specs.Knowing.{knowing}
use Rattle.gen1_hits.proofs.Knowledge.{plain_still}
use Rattle.gen1_effects.proofs.LateEffects.{begins_bide, lowers, no_other, raises, sleeps}
use Rattle.gen1_effects.proofs.Passing.{ended}
use Rattle.gen1_effects.proofs.StageReset.{falls-by, rises-by}
use Rattle.gen1_effects.proofs.late_effects.group_two_knowing.Goals as goal

pub returns-in-StatUp-clause-shown : goal.returns-in-StatUp-clause-shown
returns-in-StatUp-clause-shown t c since g p untied h =
    let s = c.args.side in
    let is = sym c.effect.ensures ∙ c.in-StatUp.is in
    rw (raises (ruling_of g.setting.terms) s (move_at c.args.id) _ p _ _ is)
    (ended _ _ (raise_stage s s c.in-StatUp.stat c.in-StatUp.by (fail s))
    (plain_still c.args.known.now g _ (c.raise_own_stat.ensures.shown (rises-by _ _ _ is)) h))

pub returns-in-StatDown-clause-shown : goal.returns-in-StatDown-clause-shown
returns-in-StatDown-clause-shown t c since g p untied h =
    let is = sym c.effect.ensures ∙ c.in-StatDown.is in
    rw (lowers (ruling_of g.setting.terms) c.args.side (move_at c.args.id) _ p _ _ is)
    (ended _ _ (lower_foes_stat c.args.side (move_at c.args.id) c.in-StatDown.stat c.in-StatDown.by)
    (c.lower_foes_stat.ensures.shown (falls-by _ _ _ is) since g p h))

pub returns-in-InflictSleep-clause-shown : goal.returns-in-InflictSleep-clause-shown
returns-in-InflictSleep-clause-shown t c since g p untied h =
    let r = ruling_of g.setting.terms in
    let is = sym c.effect.ensures ∙ c.in-InflictSleep.is in
    rw (sleeps r c.args.side (move_at c.args.id) _ p is)
    (ended _ _ (put_to_sleep r c.args.side (move_at c.args.id)) (c.put_to_sleep.ensures.shown since g p h))

pub returns-in-Bide-clause-shown : goal.returns-in-Bide-clause-shown
returns-in-Bide-clause-shown t c since g p untied h =
    let s = c.args.side in
    let is = sym c.effect.ensures ∙ c.in-Bide.is in
    rw (begins_bide (ruling_of g.setting.terms) s (move_at c.args.id) _ p is)
    (ended _ _ (start_bide s) (c.start_bide.ensures.shown since (knowing c.args.known.now g) p (untied (ap bides is)) h))

pub unreachable-requires : goal.unreachable-requires
unreachable-requires t c =
    no_other _ c.requires.tie (λ stat by is. c.in_default.not-StatUp stat by (c.effect.ensures ∙ is)) (λ stat by is. c.in_default.not-StatDown stat by (c.effect.ensures ∙ is)) (λ is. c.in_default.not-InflictSleep (c.effect.ensures ∙ is)) (λ is. c.in_default.not-Bide (c.effect.ensures ∙ is))
