use Rattle.gen1_turn.proofs.turn_update.parts.act_and_suffer.Goals as goal

pub returns-in-One-clause-shown : goal.returns-in-One-clause-shown
returns-in-One-clause-shown g c = rw (c.in-One.is, ← c.random.view_is) c.act_and_suffer_as.ensures.shown

pub returns-in-Two-clause-shown : goal.returns-in-Two-clause-shown
returns-in-Two-clause-shown g c = rw c.in-Two.is c.act_and_suffer_as-in-Two.ensures.shown
