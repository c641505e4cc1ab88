use Rattle.gen1_layout.proofs.Words.{goes, sym, ◌∙◌}
use Rattle.gen1_machine.specs.Turn.{do_part}
use Rattle.gen1_status.proofs.Told.{residual-spares}
use Rattle.gen1_turn.proofs.Living.{hurt-sent, sends-whole}
use Rattle.gen1_turn.proofs.Turns.{begins-in_range, begun_still, sent_left}
use Rattle.gen1_turn.proofs.turn_update.parts.sends_and_suffers.Goals as goal

pub returns-clause-shown : goal.returns-clause-shown
unfolding do_part
returns-clause-shown t c g p broke r may whole h =
    let s = c.args.side in
    let place = c.args.place in
    let a = begun_still c.args.known.now c.begun.result g broke s c.begun.ensures h in
    let b = goes _ _ a (c.send_out.ensures.shown _ _ (begins-in_range s s place p may.0) a) in
    let hurt = hurt-sent r s place c.is_hurt_at-is_hurt.result p h.ends (sym (c.is_hurt_at-is_hurt.ensures.stands _ _ h.within)) in
    sent_left _ _ _ c.suffer_if.result _ s p b
    (c.suffer_if.ensures.shown _ _ (sends-whole r s place p may whole) (λ e. residual-spares s _ (hurt ∙ e) b.ends) b)
