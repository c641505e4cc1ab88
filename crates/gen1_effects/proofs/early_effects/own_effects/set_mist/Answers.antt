use Rattle.std.proofs.Common.{lit<, refl}
use Rattle.gen1_machine.specs.Conditions.{with_mist}
use Rattle.gen1_machine.specs.EarlyEffects.{set_mist}
use Rattle.gen1_effects.proofs.SideEffects.{mist-same}
use Rattle.gen1_effects.proofs.early_effects.own_effects.set_mist.Goals as goal

pub returns-clause-shown : goal.returns-clause-shown
unfolding set_mist with_mist
returns-clause-shown t c = c.put_up.ensures.shown 7 refl (lit< tt) with_mist (λ d. refl) mist-same
