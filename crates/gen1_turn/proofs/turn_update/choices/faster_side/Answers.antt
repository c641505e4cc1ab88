use Rattle.std.proofs.Common.{◌+◌, ◌≡◌}
use Rattle.gen1_layout.proofs.Words.{choose-false, choose-true, drawn_next, false, nat_lt, refl, true, ◌∙◌}
use Rattle.gen1_rolls.proofs.Standing.{alike_below}
use Rattle.gen1_tables.specs.declared.effect.Stat.TheVariants.{Speed}
use Rattle.gen1_machine.specs.declared.side.Side.TheVariants.{One, Two}
use Rattle.gen1_machine.specs.CurrentStats.{now_in}
use Rattle.gen1_machine.specs.TurnOrder.{in_order_of_speed}
use Rattle.gen1_status.proofs.Statuses.{below, not_below}
use Rattle.gen1_turn.proofs.Turns.{tossed_one, tossed_two}
use Rattle.gen1_turn.proofs.turn_update.choices.faster_side.Goals as goal

pub returns-then-two-one-clause-shown : goal.returns-then-two-one-clause-shown
unfolding in_order_of_speed
returns-then-two-one-clause-shown t c since g events p h =
    let one = c.current_stat-one.ensures.stands _ _ h.shows.within refl in
    let two = c.current_stat-two.ensures.stands _ _ h.shows.within refl in
    let e : nat_lt (now_in Speed Two p.field) (now_in Speed One p.field) ≡ true = rw (← two, ← one) (below _ _ c.if-two-one.true) in
    (p.drawn, h, λ begins. choose-true _ _ _ p e)

pub returns-then-one-two-clause-shown : goal.returns-then-one-two-clause-shown
unfolding in_order_of_speed
returns-then-one-two-clause-shown t c since g events p h =
    let one = c.current_stat-one.ensures.stands _ _ h.shows.within refl in
    let two = c.current_stat-two.ensures.stands _ _ h.shows.within refl in
    let e : nat_lt (now_in Speed Two p.field) (now_in Speed One p.field) ≡ false = rw (← two, ← one) (not_below _ _ c.if-two-one.false) in
    let e' : nat_lt (now_in Speed One p.field) (now_in Speed Two p.field) ≡ true = rw (← two, ← one) (below _ _ c.if-one-two.true) in
    (p.drawn, h, λ begins. choose-false _ _ _ p e ∙ choose-true _ _ _ p e')

pub returns-then-draw_as-lt-SIDE_1_BELOW-clause-shown : goal.returns-then-draw_as-lt-SIDE_1_BELOW-clause-shown
unfolding in_order_of_speed
returns-then-draw_as-lt-SIDE_1_BELOW-clause-shown t c since g events p h =
    let one = c.current_stat-one.ensures.stands _ _ h.shows.within refl in
    let two = c.current_stat-two.ensures.stands _ _ h.shows.within refl in
    let e : nat_lt (now_in Speed Two p.field) (now_in Speed One p.field) ≡ false = rw (← two, ← one) (not_below _ _ c.if-two-one.false) in
    let e' : nat_lt (now_in Speed One p.field) (now_in Speed Two p.field) ≡ false = rw (← two, ← one) (not_below _ _ c.if-one-two.false) in
    let next = drawn_next h (c.draw_as.ensures.drawn since) in (
      p.drawn + 1,
      next.1,
      λ begins. choose-false _ _ _ p e ∙ choose-false _ _ _ p e'
          ∙ tossed_one begins p c.draw_as.result (alike_below _ _ 128 next.0) (below _ _ c.if-draw_as-lt-SIDE_1_BELOW.true),
    )

pub returns-clause-shown : goal.returns-clause-shown
unfolding in_order_of_speed
returns-clause-shown t c since g events p h =
    let one = c.current_stat-one.ensures.stands _ _ h.shows.within refl in
    let two = c.current_stat-two.ensures.stands _ _ h.shows.within refl in
    let e : nat_lt (now_in Speed Two p.field) (now_in Speed One p.field) ≡ false = rw (← two, ← one) (not_below _ _ c.if-two-one.false) in
    let e' : nat_lt (now_in Speed One p.field) (now_in Speed Two p.field) ≡ false = rw (← two, ← one) (not_below _ _ c.if-one-two.false) in
    let next = drawn_next h (c.draw_as.ensures.drawn since) in (
      p.drawn + 1,
      next.1,
      λ begins. choose-false _ _ _ p e ∙ choose-false _ _ _ p e'
          ∙ tossed_two begins p c.draw_as.result (alike_below _ _ 128 next.0) (not_below _ _ c.if-draw_as-lt-SIDE_1_BELOW.false),
    )
