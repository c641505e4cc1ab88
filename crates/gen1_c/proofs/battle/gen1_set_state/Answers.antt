use Rattle.std.proofs.Common.{refl}
use Rattle.gen1_c.proofs.battle.gen1_set_state.Goals as goal

pub returns-in-Ok-clause-accepts : goal.returns-in-Ok-clause-accepts
returns-in-Ok-clause-accepts c = (λ _. c.in-Ok.ensures.accepts.0 refl, λ _. refl)
