use Rattle.gen1_layout.proofs.Words.{Field, Who, ap, noted, who_in}
use Rattle.gen1_machine.specs.declared.event.Event.TheVariants as events
use Rattle.gen1_machine.specs.declared.event.Volatile.TheVariants as volatiles
use Rattle.gen1_machine.specs.EarlyEffects.{splash}
use Rattle.gen1_effects.proofs.Failing.{ended}
use Rattle.gen1_effects.proofs.early_effects.own_effects.splash.Goals as goal

pub returns-clause-shown : goal.returns-clause-shown
unfolding splash
returns-clause-shown t c g p h =
    ended _ (noted h (λ (f : Field). events.Activate (who_in c.args.side f) volatiles.Splash) c.push.ensures.told
    (ap (λ (w : Who). events.Activate w volatiles.Splash) (c.who.ensures.stands _ _ h.within)))
