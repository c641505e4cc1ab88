use Rattle.gen1_layout.proofs.Words.{Field, Who, ap, goes, halted, noted, who_in}
use Rattle.gen1_machine.specs.declared.event.Event.TheVariants as events
use Rattle.gen1_machine.specs.Progress.{fail}
use Rattle.gen1_status.proofs.conditions.fail.Goals as goal

pub returns-clause-shown : goal.returns-clause-shown
unfolding fail
returns-clause-shown t c g p h =
    let a = noted h (λ (f : Field). events.Fail (who_in c.args.side f)) c.push.ensures.told
    (ap (λ (w : Who). events.Fail w) (c.who.ensures.stands _ _ h.within)) in
    goes _ _ a (halted a)
