use Rattle.std.proofs.Common.{Ok, refl}
use Rattle.gen1_c.proofs.battle.gen1_load.Goals as goal

pub returns-in-Ok-clause-tests : goal.returns-in-Ok-clause-tests
returns-in-Ok-clause-tests c = (Ok c.in-Ok.packed, c.in-Ok.ensures.tests, (refl, refl))

pub returns-in-Ok-clause-battle : goal.returns-in-Ok-clause-battle
returns-in-Ok-clause-battle c = (λ zero. c.in-Ok.ensures.battle.0 refl, λ battle. refl)
