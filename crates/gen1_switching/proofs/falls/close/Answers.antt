use Rattle.std.proofs.Common.{◌≡◌, ◌∙◌}
use Rattle.gen1_layout.proofs.Words.{None, Some, ap, false, sym}
use Rattle.gen1_machine.specs.Ruling.{ruling_of}
use Rattle.gen1_switching.specs.SwitchingIn.{fault_in}
use Rattle.gen1_switching.proofs.Closed.{closes, closes_fault, fault_range}
use Rattle.gen1_switching.proofs.falls.close.Goals as goal

pub returns-in-Some-clause-shown : goal.returns-in-Some-clause-shown
returns-in-Some-clause-shown t c g p acted h =
    let o = c.outcome.ensures.stands _ _ h.within in
    let is : fault_in p.field.outcome ≡ Some c.in-Some.number = sym (c.in-Some.ensures ∙ ap fault_in o) in
    (false, rw (closes_fault (ruling_of g.setting.terms) p.field.outcome _ p is) (c.end_by_fault.ensures.shown (fault_range _ _ is h.within.storable.outcome) g p h))

pub returns-in-None-clause-shown : goal.returns-in-None-clause-shown
returns-in-None-clause-shown t c g p acted h =
    let o = c.outcome.ensures.stands _ _ h.within in
    let is : fault_in p.field.outcome ≡ None = sym (c.in-None.ensures ∙ ap fault_in o) in
    let d = c.faint_and_settle.ensures.shown g p acted h in
    (d.0, rw (closes (ruling_of g.setting.terms) p.field.outcome p is) d.1)
