use Rattle.std.proofs.Common.{◌≡◌, ◌∙◌}
use Rattle.gen1_layout.proofs.Words.{goes, noted, quietly, refl}
use Rattle.gen1_machine.specs.declared.event.Event.TheVariants as events
use Rattle.gen1_layout.proofs.WaysBack.{taken}
use Rattle.gen1_switching.proofs.falls.end_by_fault.Goals as goal

pub returns-in-Some-clause-shown : goal.returns-in-Some-clause-shown
returns-in-Some-clause-shown t c range g p h =
    let n = c.args.number in
    let code : c.in-Some.code ≡ n = let e = c.in-Some.ensures ∙ taken 1 2 n n range in cc in
    let a = quietly h (c.ask_nothing.ensures.shown p.events g p) in
    goes _ _ a (noted a (λ f. events.Fault n) c.push.ensures.told (rw code refl))

pub returns-in_default-clause-shown : goal.returns-in_default-clause-shown
returns-in_default-clause-shown t c range g p h =
    let n = c.args.number in
    let none = c.in_default.ensures ∙ taken 1 2 n n range in cc
