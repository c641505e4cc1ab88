use Rattle.gen1_layout.proofs.Chain.{drawn_quietly, drawn_stays}
use Rattle.gen1_effects.proofs.side_effects.do_harm.Goals as goal

pub returns-in-Poison-clause-shown : goal.returns-in-Poison-clause-shown
returns-in-Poison-clause-shown t c since g p h = rw c.in-Poison.is (c.may_poison.ensures.shown since g p h)

pub returns-in-Burn-clause-shown : goal.returns-in-Burn-clause-shown
returns-in-Burn-clause-shown t c since g p h = rw c.in-Burn.is (c.may_inflict.ensures.shown tt since g p h)

pub returns-in-Freeze-clause-shown : goal.returns-in-Freeze-clause-shown
returns-in-Freeze-clause-shown t c since g p h = rw c.in-Freeze.is (c.may_inflict-in-Freeze.ensures.shown tt since g p h)

pub returns-in-Paralysis-clause-shown : goal.returns-in-Paralysis-clause-shown
returns-in-Paralysis-clause-shown t c since g p h = rw c.in-Paralysis.is (c.may_inflict-in-Paralysis.ensures.shown tt since g p h)

pub returns-in-Flinch-clause-shown : goal.returns-in-Flinch-clause-shown
returns-in-Flinch-clause-shown t c since g p h = rw c.in-Flinch.is (drawn_quietly h (c.may_flinch.ensures.shown _ since g p))

pub returns-in-Drop-clause-shown : goal.returns-in-Drop-clause-shown
returns-in-Drop-clause-shown t c since g p h = rw c.in-Drop.is (c.may_lower.ensures.shown since g p h)

pub returns-in-Nothing-clause-shown : goal.returns-in-Nothing-clause-shown
returns-in-Nothing-clause-shown t c since g p h = rw c.in-Nothing.is (drawn_stays h)
