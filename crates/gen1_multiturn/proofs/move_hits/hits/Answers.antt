use Rattle.gen1_layout.proofs.Words.{ap, drawn_goes, drawn_if_not, drawn_if_so, drawn_stays, sym, ◌∙◌}
use Rattle.gen1_machine.specs.ManyHits.{hit_once, hits, note_first_hit}
use Rattle.gen1_tables.specs.Effects.{hits_more}
use Rattle.gen1_machine.specs.Moves.{move_at}
use Rattle.gen1_hits.proofs.Knowledge.{does_still}
use Rattle.gen1_rolls.specs.Draws.{by_then}
use Rattle.gen1_multiturn.proofs.move_hits.hits.Goals as goal

pub returns-then-hits_more-clause-shown : goal.returns-then-hits_more-clause-shown
unfolding hits
returns-then-hits_more-clause-shown t c since g p h =
    let e = sym (c.hits_more.ensures ∙ ap hits_more c.effect.ensures) ∙ c.if-hits_more.true in
    let n = does_still g (note_first_hit c.args.side (move_at c.args.id)) c.note_first_hit.ensures.shown h in
    let a = c.hit_of_many.ensures.shown (by_then c.other_hits.ensures.steps since) g _ n in
    drawn_goes _ _ n (drawn_goes _ _ a (drawn_if_so _ _ _ e (c.other_hits.ensures.shown since g _ a)))

pub returns-else-hits_more-clause-shown : goal.returns-else-hits_more-clause-shown
unfolding hits
returns-else-hits_more-clause-shown t c since g p h =
    let e = sym (c.hits_more.ensures ∙ ap hits_more c.effect.ensures) ∙ c.if-hits_more.false in
    let n = does_still g (note_first_hit c.args.side (move_at c.args.id)) c.note_first_hit.ensures.shown h in
    let a = does_still g (hit_once c.args.side (move_at c.args.id)) c.hit_once.ensures.shown n in
    drawn_goes _ _ n (drawn_goes _ _ a (drawn_if_not _ _ _ e (drawn_stays a)))
