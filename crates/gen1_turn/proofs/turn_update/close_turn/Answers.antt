use Rattle.gen1_turn.proofs.turn_update.close_turn.Goals as goal

pub returns-then-cut-clause-shown : goal.returns-then-cut-clause-shown
returns-then-cut-clause-shown t c g p acted whole h = c.close.ensures.shown g p acted h

pub returns-clause-shown : goal.returns-clause-shown
returns-clause-shown t c g p acted whole h = c.close_uncut.ensures.shown g p (whole c.if-cut.false) h
