use Rattle.gen1_layout.proofs.Words.{choose-false, choose-true, ◌∙◌}
use Rattle.gen1_machine.specs.TurnOrder.{in_order_of_rank}
use Rattle.gen1_status.proofs.Statuses.{below, not_below}
use Rattle.gen1_turn.proofs.turn_update.choices.side_by_ranks.Goals as goal

pub returns-then-one-two-clause-shown : goal.returns-then-one-two-clause-shown
unfolding in_order_of_rank
returns-then-one-two-clause-shown t c since g events p h =
    (p.drawn, h, λ begins. choose-true _ _ _ p (below _ _ c.if-one-two.true))

pub returns-then-two-one-clause-shown : goal.returns-then-two-one-clause-shown
unfolding in_order_of_rank
returns-then-two-one-clause-shown t c since g events p h =
    (p.drawn, h, λ begins. choose-false _ _ _ p (not_below _ _ c.if-one-two.false) ∙ choose-true _ _ _ p (below _ _ c.if-two-one.true))

pub returns-clause-shown : goal.returns-clause-shown
unfolding in_order_of_rank
returns-clause-shown t c since g events p h =
    let q = c.faster_side.ensures.shown since g events p h in
    (q.0, q.1, λ begins. choose-false _ _ _ p (not_below _ _ c.if-one-two.false) ∙ choose-false _ _ _ p (not_below _ _ c.if-two-one.false) ∙ q.2 begins)
