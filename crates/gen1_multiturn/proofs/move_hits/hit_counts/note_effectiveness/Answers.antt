use Rattle.gen1_layout.proofs.Words.{Who, ap, arith, if_not, if_so, noted, refl, stays, sym, who_in, ◌∙◌}
use Rattle.gen1_machine.specs.declared.event.Event.TheVariants as events
use Rattle.gen1_machine.specs.ManyHits.{note_effectiveness}
use Rattle.gen1_machine.specs.Moves.{move_at}
use Rattle.gen1_machine.specs.Progress.{given}
use Rattle.gen1_machine.specs.Sides.{other}
use Rattle.gen1_status.proofs.Statuses.{below, not_below}
use Rattle.gen1_multiturn.proofs.MoveHits.{counted, none_counted}
use Rattle.gen1_multiturn.proofs.move_hits.hit_counts.note_effectiveness.Goals as goal

pub returns-then-is_neutral-clause-shown : goal.returns-then-is_neutral-clause-shown
unfolding given note_effectiveness
returns-then-is_neutral-clause-shown t c g p h =
    let s = c.args.side in
    let first = rw c.other-foe.ensures at (c.first_type.ensures.stands _ p.field h.within) in
    let second = rw c.other-foe.ensures at (c.second_type.ensures.stands _ p.field h.within) in
    let twice = counted 20 s (move_at c.args.id) p c.kind.ensures first second c.effectiveness-factors.ensures.tenths c.effectiveness-factors.ensures.all refl refl in
    let half = counted 5 s (move_at c.args.id) p c.kind.ensures first second c.effectiveness-factors.ensures.tenths c.effectiveness-factors.ensures.all refl refl in
    let neutral = sym c.is_neutral.ensures ∙ c.if-is_neutral.true in
    let none_doubles = none_counted 20 c.effectiveness-factors.result neutral refl in
    let none_halves = none_counted 5 c.effectiveness-factors.result neutral refl in
    if_not _ _ _ (not_below _ _ (omega (arith, half, twice, none_doubles, none_halves)))
    (if_not _ _ _ (not_below _ _ (omega (arith, half, twice, none_doubles, none_halves))) (stays h))

pub returns-then-halving-doubling-clause-shown : goal.returns-then-halving-doubling-clause-shown
unfolding given note_effectiveness
returns-then-halving-doubling-clause-shown t c g p h =
    let s = c.args.side in
    let first = rw c.other-foe.ensures at (c.first_type.ensures.stands _ p.field h.within) in
    let second = rw c.other-foe.ensures at (c.second_type.ensures.stands _ p.field h.within) in
    let twice = counted 20 s (move_at c.args.id) p c.kind.ensures first second c.effectiveness-factors.ensures.tenths c.effectiveness-factors.ensures.all refl c.how_many-doubling.ensures in
    let half = counted 5 s (move_at c.args.id) p c.kind.ensures first second c.effectiveness-factors.ensures.tenths c.effectiveness-factors.ensures.all refl c.how_many-halving.ensures in
    if_so _ _ _ (below _ _ (omega (arith, half, twice, c.if-halving-doubling.true)))
    (noted h (λ f. events.SuperEffective (who_in (other s) f)) c.push.ensures.told (ap (λ (w : Who). events.SuperEffective w) (rw c.other-foe.ensures at (c.who.ensures.stands _ _ h.within))))

pub returns-then-doubling-halving-clause-shown : goal.returns-then-doubling-halving-clause-shown
unfolding given note_effectiveness
returns-then-doubling-halving-clause-shown t c g p h =
    let s = c.args.side in
    let first = rw c.other-foe.ensures at (c.first_type.ensures.stands _ p.field h.within) in
    let second = rw c.other-foe.ensures at (c.second_type.ensures.stands _ p.field h.within) in
    let twice = counted 20 s (move_at c.args.id) p c.kind.ensures first second c.effectiveness-factors.ensures.tenths c.effectiveness-factors.ensures.all refl c.how_many-doubling.ensures in
    let half = counted 5 s (move_at c.args.id) p c.kind.ensures first second c.effectiveness-factors.ensures.tenths c.effectiveness-factors.ensures.all refl c.how_many-halving.ensures in
    if_not _ _ _ (not_below _ _ (omega (arith, half, twice, c.if-halving-doubling.false)))
    (if_so _ _ _ (below _ _ (omega (arith, half, twice, c.if-doubling-halving.true)))
    (noted h (λ f. events.Resisted (who_in (other s) f)) c.push-then-doubling-halving.ensures.told (ap (λ (w : Who). events.Resisted w) (rw c.other-foe.ensures at (c.who-then-doubling-halving.ensures.stands _ _ h.within)))))

pub returns-else-doubling-halving-clause-shown : goal.returns-else-doubling-halving-clause-shown
unfolding given note_effectiveness
returns-else-doubling-halving-clause-shown t c g p h =
    let s = c.args.side in
    let first = rw c.other-foe.ensures at (c.first_type.ensures.stands _ p.field h.within) in
    let second = rw c.other-foe.ensures at (c.second_type.ensures.stands _ p.field h.within) in
    let twice = counted 20 s (move_at c.args.id) p c.kind.ensures first second c.effectiveness-factors.ensures.tenths c.effectiveness-factors.ensures.all refl c.how_many-doubling.ensures in
    let half = counted 5 s (move_at c.args.id) p c.kind.ensures first second c.effectiveness-factors.ensures.tenths c.effectiveness-factors.ensures.all refl c.how_many-halving.ensures in
    if_not _ _ _ (not_below _ _ (omega (arith, half, twice, c.if-halving-doubling.false)))
    (if_not _ _ _ (not_below _ _ (omega (arith, half, twice, c.if-doubling-halving.false))) (stays h))
