use Rattle.gen1_layout.proofs.Words.{false, sym}
use Rattle.gen1_machine.specs.ResidualDamage.{residual}
use Rattle.gen1_turn.proofs.Living.{cut_by_fall, residual-goes_on, whole_of}
use Rattle.gen1_turn.proofs.Turns.{cut_after}
use Rattle.gen1_turn.proofs.turn_update.parts.suffer_if.Goals as goal

pub returns-then-not-is_hurt-clause-shown : goal.returns-then-not-is_hurt-clause-shown
returns-then-not-is_hurt-clause-shown t c g p whole spares h =
    let spared = spares c.if-not-is_hurt.true in
    cut_after g _ _ c.args.side p false (rw spared whole) whole (rw spared h)

pub returns-clause-shown : goal.returns-clause-shown
returns-clause-shown t c g p whole spares h =
    let s = c.args.side in
    let a = c.residual.ensures.shown g p h in
    let goes_on = residual-goes_on s p (whole_of p.field whole).2 in
    let cut = cut_by_fall (residual s p).field _ goes_on (sym (c.one_has_fallen.ensures.stands _ _ a.within)) in
    cut_after g _ _ s p c.one_has_fallen.result cut whole a
