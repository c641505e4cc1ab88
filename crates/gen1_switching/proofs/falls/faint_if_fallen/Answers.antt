use Rattle.std.proofs.Common.{◌∙◌}
use Rattle.gen1_layout.proofs.Words.{changed_member, if_not, if_so, refl, stays, sym, told_so, who_in}
use Rattle.gen1_machine.specs.declared.event.Event.TheVariants as events
use Rattle.gen1_machine.specs.State.{fallen}
use Rattle.gen1_machine.specs.Falls.{faint_if_fallen}
use Rattle.gen1_switching.proofs.falls.faint_if_fallen.Goals as goal

pub returns-then-not-has_fallen-clause-shown : goal.returns-then-not-has_fallen-clause-shown
unfolding faint_if_fallen
returns-then-not-has_fallen-clause-shown t c g p h = if_not _ _ _ (sym (c.has_fallen.ensures.stands _ _ h.within) ∙ c.if-not-has_fallen.true) (stays h)

pub returns-clause-shown : goal.returns-clause-shown
unfolding faint_if_fallen fallen
returns-clause-shown t c g p h =
    let s = c.args.side in
    let w = c.put_fallen.ensures.stands _ _ fallen h.within refl in
    let who = c.who.ensures.stands _ _ w in
    if_so _ _ _ (sym (c.has_fallen.ensures.stands _ _ h.within) ∙ c.if-not-has_fallen.false)
    (told_so h (changed_member s fallen) (λ f. events.Faint (who_in s f)) w c.push.ensures.told (rw who refl))
