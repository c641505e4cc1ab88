use Rattle.std.proofs.Common.{arith, sym, ◌∙◌, ◌≡◌}
use Rattle.gen1_c.specs.Teams.{team_fault}
use Rattle.gen1_c.proofs.TheTheorem.{no_fault}
use Rattle.gen1_c.proofs.the_theorem.set_up.Goals as goal

pub returns-clause-fault : goal.returns-clause-fault
returns-clause-fault c =
    let b = c.args.beginning.now in
    let zero : c.gen1_new-fault.result ≡ 0 = omega (arith, c.if-fault-ne0.false) in
    let none = sym c.gen1_new-fault.ensures.fault ∙ zero in
    c.gen1_spectator_begin.ensures.fault ∙ no_fault (team_fault b.one) (team_fault b.two) b.rules b.limit none ∙ sym none

pub returns-clause-stands : goal.returns-clause-stands
returns-clause-stands c zero =
    let none : c.gen1_new-fault.result ≡ 0 = omega (arith, c.if-fault-ne0.false) in
    c.gen1_new-fault.ensures.begun none

pub returns-clause-watches : goal.returns-clause-watches
returns-clause-watches c zero =
    let begun = c.gen1_spectator_begin.ensures.begun zero in
    (begun.2, begun.1, begun.0)

pub returns-clause-kept : goal.returns-clause-kept
returns-clause-kept c some =
    let b = c.args.beginning.now in
    let zero : c.gen1_new-fault.result ≡ 0 = omega (arith, c.if-fault-ne0.false) in
    absurd (some (c.gen1_spectator_begin.ensures.fault
    ∙ no_fault (team_fault b.one) (team_fault b.two) b.rules b.limit (sym c.gen1_new-fault.ensures.fault ∙ zero)))
