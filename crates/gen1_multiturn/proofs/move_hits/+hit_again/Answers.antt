use Rattle.std.proofs.Common.{◌-◌, ◌||◌}
use Rattle.gen1_layout.proofs.Words.{Action, ap, arith, drawn_goes, drawn_if_not, drawn_if_so, drawn_stays, sym, ◌∙◌}
use Rattle.gen1_machine.specs.Sides.{other}
use Rattle.gen1_machine.specs.State.{has_fallen_in}
use Rattle.gen1_machine.specs.Moves.{move_at}
use Rattle.gen1_multiturn.proofs.MoveHits.{again-more, again-none}
use Rattle.gen1_rolls.specs.Draws.{by_then}
use Rattle.gen1_multiturn.proofs.move_hits.+hit_again.Goals as goal

pub returns-then-left-eq0-clause-shown : goal.returns-then-left-eq0-clause-shown
returns-then-left-eq0-clause-shown t n c since g p h = rw (again-none c.args.left c.args.side (move_at c.args.id) c.if-left-eq0.true) (drawn_stays h)

pub returns-then-hits_end-clause-shown : goal.returns-then-hits_end-clause-shown
returns-then-hits_end-clause-shown t n c since g p h =
    let e = ap (λ (x : Action). x.broke || has_fallen_in (other c.args.side) p.field) h.shows.action ∙ sym (c.hits_end.ensures.stands _ _ h.shows.within) ∙ c.if-hits_end.true in
    rw (again-more c.args.left (c.args.left - 1) c.args.side (move_at c.args.id) (omega (arith, c.if-left-eq0.false))) (drawn_if_so _ _ _ e (drawn_stays h))

pub returns-clause-shown : goal.returns-clause-shown
returns-clause-shown t n c since g p h =
    let e = ap (λ (x : Action). x.broke || has_fallen_in (other c.args.side) p.field) h.shows.action ∙ sym (c.hits_end.ensures.stands _ _ h.shows.within) ∙ c.if-hits_end.false in
    let a = c.hit_of_many.ensures.shown (by_then c.hit_again.ensures.steps since) g p h in
    rw (again-more c.args.left (c.args.left - 1) c.args.side (move_at c.args.id) (omega (arith, c.if-left-eq0.false)))
    (drawn_if_not _ _ _ e (drawn_goes _ _ a (c.hit_again.ensures.shown since g _ a)))
