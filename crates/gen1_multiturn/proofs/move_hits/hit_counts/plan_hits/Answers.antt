use Rattle.std.proofs.Common.{◌+◌}
use Rattle.gen1_layout.proofs.Words.{Action, Some, ap, drawn_acted, drawn_if_not, drawn_if_so, drawn_stays, is_some, sym, ◌∙◌}
use Rattle.gen1_machine.specs.HitEffects.{plan_hits, plan_two_more, set_planned}
use Rattle.gen1_multiturn.proofs.move_hits.hit_counts.plan_hits.Goals as goal

pub returns-then-is_some-clause-shown : goal.returns-then-is_some-clause-shown
unfolding plan_hits
returns-then-is_some-clause-shown t c parts events since g p h =
    drawn_if_so _ _ _ (ap (λ (a : Action). is_some a.hits_planned) h.shows.action ∙ sym c.is_some.ensures ∙ c.if-is_some.true) (drawn_stays h)

pub returns-clause-shown : goal.returns-clause-shown
unfolding plan_hits plan_two_more set_planned
returns-clause-shown t c parts events since g p h =
    let d = c.draw_count-count.ensures.shown since _ parts events p h in
    drawn_if_not _ _ _ (ap (λ (a : Action). is_some a.hits_planned) h.shows.action ∙ sym c.is_some.ensures ∙ c.if-is_some.false)
    (rw (d.2 plan_two_more) (drawn_acted (λ (x : Action). record x { hits_planned = Some (c.draw_count-count.result + 2) }) d.1))
