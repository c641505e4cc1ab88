use Rattle.gen1_layout.proofs.Words.{Field, false, goes, noted, quietly, refl}
use Rattle.gen1_machine.specs.declared.event.Event.TheVariants as events
use Rattle.gen1_machine.specs.EarlyEffects.{haze}
use Rattle.gen1_effects.proofs.Failing.{ended}
use Rattle.gen1_effects.proofs.early_effects.haze.haze.Goals as goal

pub returns-clause-shown : goal.returns-clause-shown
unfolding haze
returns-clause-shown t c g p h =
    let a = quietly h (c.clear_side.ensures _ _ _) in
    let b = quietly a (c.clear_side-2.ensures _ _ _) in
    let d = noted b (λ (f : Field). events.ClearAll) c.push.ensures.told refl in
    ended {b = false} _ (goes _ _ a (goes _ _ b (goes _ _ d (rw (← c.other.ensures) (c.cure.ensures.shown g _ d)))))
