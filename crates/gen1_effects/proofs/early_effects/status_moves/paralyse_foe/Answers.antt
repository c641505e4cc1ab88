use Rattle.std.proofs.Common.{◌&&◌}
use Rattle.gen1_layout.proofs.Words.{Bool, Progress, Side, ap, drawn_goes, drawn_settled, drawn_stops, sym, ◌∙◌}
use Rattle.gen1_tables.specs.declared.types.Element.{Element}
use Rattle.gen1_tables.specs.declared.types.Element.TheVariants.{Electric, Ground}
use Rattle.gen1_tables.specs.Types.{same_type}
use Rattle.gen1_machine.specs.EarlyEffects.{paralyse_foe}
use Rattle.gen1_machine.specs.Moves.{move_at, Move}
use Rattle.gen1_machine.specs.Progress.{has_status, is_of}
use Rattle.gen1_hits.proofs.Knowledge.{plain_still}
use Rattle.gen1_effects.proofs.Failing.{drawn_ended, drawn_fails, drawn_past}
use Rattle.gen1_effects.proofs.early_effects.status_moves.paralyse_foe.Goals as goal

abbrev grounded : Side → Move → Progress → Bool
grounded s move p = same_type move.kind Electric && is_of s Ground p

pub returns-then-has_status-clause-shown : goal.returns-then-has_status-clause-shown
unfolding paralyse_foe
returns-then-has_status-clause-shown t c since g p h =
    rw (← c.other-foe.ensures) (drawn_ended _ (drawn_fails c.args.known.now g c.args.side (has_status c.other-foe.result) _
    (sym (c.has_status.ensures.stands _ _ h.shows.within) ∙ c.if-has_status.true) c.fail.ensures.shown h))

pub returns-then-is_grounded-clause-shown : goal.returns-then-is_grounded-clause-shown
unfolding paralyse_foe
returns-then-is_grounded-clause-shown t c since g p h =
    rw (← c.other-foe.ensures) (drawn_ended _ (drawn_past c.args.side (has_status c.other-foe.result) _
    (sym (c.has_status.ensures.stands _ _ h.shows.within) ∙ c.if-has_status.false) h
    (drawn_fails c.args.known.now g c.args.side (grounded c.other-foe.result (move_at c.args.id)) _
    (sym (c.is_grounded.ensures.stands _ _ h.shows.within ∙ ap (λ (t : Element). same_type t Electric && is_of c.other-foe.result Ground p) c.kind.ensures) ∙ c.if-is_grounded.true) c.fail-then-is_grounded.ensures.shown h)))

pub returns-then-must_hit-clause-shown : goal.returns-then-must_hit-clause-shown
unfolding paralyse_foe
returns-then-must_hit-clause-shown t c since g p h =
    rw (← c.other-foe.ensures) (drawn_ended _ (drawn_past c.args.side (has_status c.other-foe.result) _
    (sym (c.has_status.ensures.stands _ _ h.shows.within) ∙ c.if-has_status.false) h
    (drawn_past c.args.side (grounded c.other-foe.result (move_at c.args.id)) _
    (sym (c.is_grounded.ensures.stands _ _ h.shows.within ∙ ap (λ (t : Element). same_type t Electric && is_of c.other-foe.result Ground p) c.kind.ensures) ∙ c.if-is_grounded.false) h
    (drawn_stops _ _ (drawn_settled c.if-must_hit.true (c.must_hit.ensures.shown since g p h))))))

pub returns-clause-shown : goal.returns-clause-shown
unfolding paralyse_foe
returns-clause-shown t c since g p h =
    let a = drawn_settled c.if-must_hit.false (c.must_hit.ensures.shown since g p h) in
    rw (← c.other-foe.ensures) (drawn_ended _ (drawn_past c.args.side (has_status c.other-foe.result) _
    (sym (c.has_status.ensures.stands _ _ h.shows.within) ∙ c.if-has_status.false) h
    (drawn_past c.args.side (grounded c.other-foe.result (move_at c.args.id)) _
    (sym (c.is_grounded.ensures.stands _ _ h.shows.within ∙ ap (λ (t : Element). same_type t Electric && is_of c.other-foe.result Ground p) c.kind.ensures) ∙ c.if-is_grounded.false) h
    (drawn_goes _ _ a (plain_still c.must_hit.new.known g _ (c.inflict.ensures.shown tt) a)))))
