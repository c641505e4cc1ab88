use Rattle.std.proofs.Common.{lit<, refl, sym, ◌∙◌}
use Rattle.gen1_machine.specs.Conditions.{with_light_screen, with_reflect}
use Rattle.gen1_machine.specs.EarlyEffects.{set_light_screen, set_reflect, set_screen}
use Rattle.gen1_effects.proofs.Failing.{ends_if_not, ends_if_so}
use Rattle.gen1_effects.proofs.SideEffects.{light_screen-same, reflect-same}
use Rattle.gen1_effects.proofs.early_effects.own_effects.set_screen.Goals as goal

pub returns-then-is_light_screen-clause-shown : goal.returns-then-is_light_screen-clause-shown
unfolding set_screen set_light_screen with_light_screen
returns-then-is_light_screen-clause-shown t c g p h =
    ends_if_so _ _ _ (sym c.is_light_screen.ensures ∙ c.if-is_light_screen.true) (c.put_up.ensures.shown 14 refl (lit< tt) with_light_screen (λ d. refl) light_screen-same g p h)

pub returns-clause-shown : goal.returns-clause-shown
unfolding set_screen set_reflect with_reflect
returns-clause-shown t c g p h =
    ends_if_not _ _ _ (sym c.is_light_screen.ensures ∙ c.if-is_light_screen.false) (c.put_up-2.ensures.shown 15 refl (lit< tt) with_reflect (λ d. refl) reflect-same g p h)
