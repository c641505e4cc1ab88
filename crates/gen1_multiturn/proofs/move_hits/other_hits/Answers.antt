use Rattle.std.proofs.Common.{unwrap_or, ◌-◌}
use Rattle.gen1_layout.proofs.Words.{Action, ap, drawn_goes, is_some, sym, ◌∙◌}
use Rattle.gen1_machine.specs.ManyHits.{note_hit_count, other_hits}
use Rattle.gen1_machine.specs.Sides.{other}
use Rattle.gen1_machine.specs.Progress.{given, when}
use Rattle.gen1_hits.proofs.Knowledge.{does_still}
use Rattle.gen1_multiturn.proofs.move_hits.other_hits.Goals as goal

pub returns-clause-shown : goal.returns-clause-shown
unfolding other_hits given
returns-clause-shown t c since g p h =
    let left = c.hits_left-left.ensures.value ∙ ap (λ (a : Action). unwrap_or a.hits_planned 1 - 1) (sym h.shows.action) in
    let a = rw left at (c.hit_again.ensures.shown since g p h) in
    let count = rw c.other.ensures at c.note_hit_count.ensures.shown in
    drawn_goes _ _ a (does_still g (when (λ q. is_some q.action.hits_planned) (given (λ q. q.action.hits_made) (note_hit_count (other c.args.side)))) count a)
