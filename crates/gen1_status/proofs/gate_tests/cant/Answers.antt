use Rattle.gen1_layout.proofs.Words.{Field, Who, ap, goes, halted, noted, who_in}
use Rattle.gen1_machine.specs.declared.event.Event.TheVariants as events
use Rattle.gen1_machine.specs.Gate.{cant}
use Rattle.gen1_status.proofs.gate_tests.cant.Goals as goal

pub returns-clause-shown : goal.returns-clause-shown
unfolding cant
returns-clause-shown t c g p h =
    let a = noted h (λ (f : Field). events.Cant (who_in c.args.side f) c.args.why) c.push.ensures.told
    (ap (λ (w : Who). events.Cant w c.args.why) (c.who.ensures.stands _ _ h.within)) in
    goes _ _ a (halted a)
