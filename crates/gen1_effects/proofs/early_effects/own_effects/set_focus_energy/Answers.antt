use Rattle.std.proofs.Common.{lit<, refl}
use Rattle.gen1_machine.specs.Conditions.{with_focus_energy}
use Rattle.gen1_machine.specs.EarlyEffects.{set_focus_energy}
use Rattle.gen1_effects.proofs.SideEffects.{focus_energy-same}
use Rattle.gen1_effects.proofs.early_effects.own_effects.set_focus_energy.Goals as goal

pub returns-clause-shown : goal.returns-clause-shown
unfolding set_focus_energy with_focus_energy
returns-clause-shown t c = c.put_up.ensures.shown 8 refl (lit< tt) with_focus_energy (λ d. refl) focus_energy-same
