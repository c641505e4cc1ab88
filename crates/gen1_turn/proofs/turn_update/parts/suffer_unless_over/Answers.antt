use Rattle.gen1_layout.proofs.Words.{ap, sym, ◌∙◌}
use Rattle.gen1_machine.specs.State.{is_over}
use Rattle.gen1_turn.proofs.Living.{cut_by_end}
use Rattle.gen1_turn.proofs.Turns.{cut_before}
use Rattle.gen1_turn.proofs.turn_update.parts.suffer_unless_over.Goals as goal

pub returns-then-is_over-clause-shown : goal.returns-then-is_over-clause-shown
returns-then-is_over-clause-shown t c g p h =
    let over = sym (c.is_over.ensures ∙ ap is_over (c.outcome.ensures.stands _ _ h.within)) ∙ c.if-is_over.true in
    cut_before g _ _ c.args.side p (cut_by_end p.field over) h

pub returns-clause-shown : goal.returns-clause-shown
returns-clause-shown t c g p h =
    let goes_on = sym (c.is_over.ensures ∙ ap is_over (c.outcome.ensures.stands _ _ h.within)) ∙ c.if-is_over.false in
    c.suffer.ensures.shown g p goes_on h
