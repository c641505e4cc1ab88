use Rattle.gen1_machine.specs.declared.side.Side.TheVariants.{One, Two}
use Rattle.gen1_machine.specs.Ruling.{ruling_of}
use Rattle.gen1_switching.proofs.Closed.{closes_uncut, uncut_lives}
use Rattle.gen1_switching.proofs.falls.close_uncut.Goals as goal

pub returns-clause-shown : goal.returns-clause-shown
returns-clause-shown t c g p whole h =
    let d = c.go_on.ensures.shown g p (uncut_lives p whole One) (uncut_lives p whole Two) h in
    (d.0, rw (closes_uncut (ruling_of g.setting.terms) p whole h.ends) d.1)
