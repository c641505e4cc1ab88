use Rattle.gen1_layout.proofs.Words.{sym, ◌∙◌}
use Rattle.gen1_status.proofs.Told.{residual-spares}
use Rattle.gen1_turn.proofs.Living.{cut_by_fall}
use Rattle.gen1_turn.proofs.Turns.{cut_before}
use Rattle.gen1_turn.proofs.turn_update.parts.suffer.Goals as goal

pub returns-then-one_has_fallen-clause-shown : goal.returns-then-one_has_fallen-clause-shown
returns-then-one_has_fallen-clause-shown t c g p goes_on h =
    cut_before g _ _ c.args.side p (cut_by_fall p.field _ goes_on (sym (c.one_has_fallen.ensures.stands _ _ h.within) ∙ c.if-one_has_fallen.true)) h

pub returns-clause-shown : goal.returns-clause-shown
returns-clause-shown t c g p goes_on h =
    let whole = cut_by_fall p.field _ goes_on (sym (c.one_has_fallen.ensures.stands _ _ h.within) ∙ c.if-one_has_fallen.false) in
    let hurt = c.suffers-is_hurt.ensures.stands _ _ h.within in
    c.suffer_if.ensures.shown g p whole (λ e. residual-spares c.args.side p (sym hurt ∙ e) h.ends) h
