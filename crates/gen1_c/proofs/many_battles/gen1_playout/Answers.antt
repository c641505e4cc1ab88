use Rattle.std.proofs.Common.{Err, Ok, refl}
use Rattle.gen1_c.proofs.many_battles.gen1_playout.Goals as goal

pub returns-in-Ok-clause-plays : goal.returns-in-Ok-clause-plays
returns-in-Ok-clause-plays c =
    (Ok c.in-Ok.start, rw c.as_bytes.ensures.value at c.in-Ok.ensures.tests, (refl, rw c.options_of.ensures at c.playout.ensures.plays))

pub returns-in-Err-clause-plays : goal.returns-in-Err-clause-plays
returns-in-Err-clause-plays c =
    (Err c.in-Err.fault, rw c.as_bytes.ensures.value at c.in-Err.ensures.tests, (c.of_load.ensures.value, refl))
