use Rattle.gen1_layout.proofs.Words.{Bool, ap, arith, choose, drawn_if_not, drawn_if_so, goes, if_not, if_so, on_conditions, put_on_conditions, stay, stays, still, sym, ◌∙◌, ◌▸◌}
use Rattle.gen1_rolls.proofs.Standing.{alike_below}
use Rattle.gen1_stats.specs.Members.{is_paralysed}
use Rattle.gen1_machine.specs.Conditions.{broken_off}
use Rattle.gen1_machine.specs.declared.event.CantReason.TheVariants as reasons
use Rattle.gen1_machine.specs.Gate.{cant, may_be_paralysed, paralysis_test}
use Rattle.gen1_hits.proofs.Knowledge.{drawing_like}
use Rattle.gen1_status.proofs.Statuses.{below, not_below}
use Rattle.gen1_status.proofs.gate_tests.by_move.paralysis_test.Goals as goal

pub returns-then-not-is_paralysed-clause-shown : goal.returns-then-not-is_paralysed-clause-shown
unfolding paralysis_test
returns-then-not-is_paralysed-clause-shown t c since g p h =
    let is = c.is_paralysed.ensures ∙ ap is_paralysed (c.status.ensures.stands _ p.field h.shows.within) in
    drawn_if_not _ _ _ (sym is ∙ c.if-not-is_paralysed.true) (still h (stays h.shows))

pub returns-then-draw_as-ge-FULLY_PARALYSED_BELOW-clause-shown : goal.returns-then-draw_as-ge-FULLY_PARALYSED_BELOW-clause-shown
unfolding paralysis_test may_be_paralysed
returns-then-draw_as-ge-FULLY_PARALYSED_BELOW-clause-shown t c since g p h =
    let is = c.is_paralysed.ensures ∙ ap is_paralysed (c.status.ensures.stands _ p.field h.shows.within) in
    drawn_if_so _ _ _ (sym is ∙ c.if-not-is_paralysed.false) (drawing_like (may_be_paralysed c.args.side) c.draw_as.result h (c.draw_as.ensures.drawn since)
    (λ n same. ap (λ (x : Bool). choose (λ _. x) (on_conditions c.args.side broken_off ▸ cant c.args.side reasons.Paralysed) stay) (alike_below _ _ 63 same))
    (λ d. still d (if_not _ _ _ (not_below _ 63 c.if-draw_as-ge-FULLY_PARALYSED_BELOW.true) (stays d.shows))))

pub returns-clause-shown : goal.returns-clause-shown
unfolding paralysis_test may_be_paralysed
returns-clause-shown t c since g p h =
    let is = c.is_paralysed.ensures ∙ ap is_paralysed (c.status.ensures.stands _ p.field h.shows.within) in
    drawn_if_so _ _ _ (sym is ∙ c.if-not-is_paralysed.false) (drawing_like (may_be_paralysed c.args.side) c.draw_as.result h (c.draw_as.ensures.drawn since)
    (λ n same. ap (λ (x : Bool). choose (λ _. x) (on_conditions c.args.side broken_off ▸ cant c.args.side reasons.Paralysed) stay) (alike_below _ _ 63 same))
    (λ d. let a = put_on_conditions d.shows c.args.side broken_off (c.break_off.ensures.stands _ _ d.shows.within) in
    still d (if_so _ _ _ (below _ 63 (omega (arith, c.if-draw_as-ge-FULLY_PARALYSED_BELOW.false))) (goes _ _ a (c.cant.ensures.shown _ _ a)))))
