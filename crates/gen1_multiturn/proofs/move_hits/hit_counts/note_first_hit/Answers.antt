use Rattle.gen1_layout.proofs.Words.{Action, ap, goes, if_not, if_so, stays, ◌∙◌}
use Rattle.gen1_machine.specs.ManyHits.{note_first_hit}
use Rattle.gen1_hits.specs.Knowing.{knowing}
use Rattle.gen1_multiturn.proofs.move_hits.hit_counts.note_first_hit.Goals as goal

pub returns-then-not-known-clause-shown : goal.returns-then-not-known-clause-shown
unfolding note_first_hit
returns-then-not-known-clause-shown t c g p h = if_not _ _ _ (ap (λ (a : Action). a.through_types) h.action ∙ c.if-not-known.true) (stays h)

pub returns-clause-shown : goal.returns-clause-shown
unfolding note_first_hit
returns-clause-shown t c g p h =
    let a = rw c.other.ensures at (c.note_critical.ensures.shown g p h) in
    if_so _ _ _ (ap (λ (x : Action). x.through_types) h.action ∙ c.if-not-known.false)
    (goes _ _ a (c.note_effectiveness.ensures.shown (knowing c.args.known.now g) _ a))
