use Rattle.gen1_layout.proofs.Words.{Action, Some, ap, drawn_acted, sym, ◌∙◌}
use Rattle.gen1_machine.specs.HitEffects.{set_planned}
use Rattle.gen1_machine.specs.Moves.{move_at}
use Rattle.gen1_multiturn.specs.MoveHits.{is_multi_hit}
use Rattle.gen1_multiturn.proofs.MoveHits.{planned-many, planned-two}
use Rattle.gen1_multiturn.proofs.move_hits.hit_counts.plan_more.Goals as goal

pub returns-then-is_multi_hit-clause-shown : goal.returns-then-is_multi_hit-clause-shown
returns-then-is_multi_hit-clause-shown t c parts events since g p h =
    let e = sym (c.is_multi_hit.ensures ∙ ap is_multi_hit c.effect.ensures) ∙ c.if-is_multi_hit.true in
    rw (planned-many c.args.side (move_at c.args.id) (move_at c.args.id).effect e) (c.plan_hits.ensures.shown parts events since g p h)

pub returns-clause-shown : goal.returns-clause-shown
unfolding set_planned
returns-clause-shown t c parts events since g p h =
    let e = sym (c.is_multi_hit.ensures ∙ ap is_multi_hit c.effect.ensures) ∙ c.if-is_multi_hit.false in
    rw (planned-two c.args.side (move_at c.args.id) (move_at c.args.id).effect c.requires.many e) (drawn_acted (λ (x : Action). record x { hits_planned = Some 2 }) h)
