use Rattle.gen1_layout.proofs.Words.{given}
use Rattle.gen1_machine.specs.TurnOrder.{in_order}
use Rattle.gen1_turn.proofs.turn_update.choices.first_side.Goals as goal

pub returns-clause-shown : goal.returns-clause-shown
unfolding in_order given
returns-clause-shown t c since g events p h =
    let one = c.rank_of-one.ensures.stands _ _ h.shows.within in
    let two = c.rank_of-two.ensures.stands _ _ h.shows.within in
    let q = c.side_by_ranks.ensures.shown since g events p h in
    (q.0, q.1, λ begins. rw (one, two) at (q.2 begins))
