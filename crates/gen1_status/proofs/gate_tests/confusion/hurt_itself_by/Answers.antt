use Rattle.gen1_layout.proofs.Words.{Progress, Side, Some, ap, conditions_in, goes, halted, if_not, if_so, lit≤, on_field, put, put_damage, refl, seeing, set_last_damage, stop, stops, sym, then-goes, then-stops, ◌∙◌, ◌▸◌}
use Rattle.gen1_machine.specs.declared.terms.Outcome.TheVariants as outcomes
use Rattle.gen1_machine.specs.State.{with_outcome}
use Rattle.gen1_machine.specs.Progress.{fault}
use Rattle.gen1_machine.specs.HitOnItself.{hurt_itself_by, land_on_foes_substitute}
use Rattle.gen1_machine.proofs.Keeps.{stop-keeps, then-keeps}
use Rattle.gen1_status.specs.declared.gate_answer.Gate.TheVariants.{Fault, Stop}
use Rattle.gen1_status.proofs.Told.{hit-keeps, known_so, tells, tells_broken}
use Rattle.gen1_status.proofs.gate_tests.confusion.hurt_itself_by.Goals as goal

pub returns-in_default-clause-shown : goal.returns-in_default-clause-shown
unfolding hurt_itself_by fault stop on_field with_outcome
returns-in_default-clause-shown t c g p h =
    let a = put h (with_outcome (outcomes.Fault 1)) (c.put_outcome.ensures.stands _ p.field h.within (lit≤ tt, lit≤ tt)) in
    let b = goes (on_field (with_outcome (outcomes.Fault 1))) stop a (halted a) in
    let first = ap (λ (q : Progress). q.field.outcome) (then-goes (on_field (with_outcome (outcomes.Fault 1))) stop p a.ends) in
    let then = ap (λ (q : Progress). q.field.outcome) (then-stops (fault 1) stop p b.ends) in
    rw c.in_default.is (record { shows = known_so Fault (stops (fault 1) stop b); outcome = then ∙ first })

pub returns-then-not-is_on-clause-shown : goal.returns-then-not-is_on-clause-shown
unfolding hurt_itself_by
returns-then-not-is_on-clause-shown t c g p h =
    let a = put_damage h c.in-Some.damage (c.put_last_damage.ensures.stands _ _ h.within) in
    let b = goes _ _ a (if_not _ _ _ (sym (c.is_on.ensures.stands 9 refl _ _ a.within) ∙ c.if-not-is_on.true) (c.land_on_hp.ensures.shown _ _ a)) in
    rw c.in-Some.is (tells Stop (hurt_itself_by c.args.side (Some c.in-Some.damage) ▸ stop) refl (then-keeps (hit-keeps _ c.args.side c.in-Some.damage) stop-keeps) (goes _ _ b (halted b)))

pub returns-clause-shown : goal.returns-clause-shown
unfolding hurt_itself_by
returns-clause-shown t c g p h =
    let a = put_damage h c.in-Some.damage (c.put_last_damage.ensures.stands _ _ h.within) in
    let foe = c.substitute-substitute.ensures.stands _ _ a.within
    ∙ ap (λ (s : Side). (conditions_in s (set_last_damage c.in-Some.damage p).field).substitute) c.other.ensures in
    let b = goes _ _ a (if_so _ _ _ (sym (c.is_on.ensures.stands 9 refl _ _ a.within) ∙ c.if-not-is_on.false)
    (seeing _ (land_on_foes_substitute c.args.side c.in-Some.damage) foe (c.land_on_foes_substitute.ensures.shown g _ (sym foe) a))) in
    rw c.in-Some.is (tells_broken _ (hurt_itself_by c.args.side (Some c.in-Some.damage) ▸ stop) (then-keeps (hit-keeps _ c.args.side c.in-Some.damage) stop-keeps) (goes _ _ b (halted b)))
