use Rattle.std.proofs.Common.{◌∙◌}
use Rattle.gen1_layout.proofs.Words.{Action, ap, goes, seeing, sym}
use Rattle.gen1_machine.specs.declared.side.Side.TheVariants.{One, Two}
use Rattle.gen1_machine.specs.Sides.{other}
use Rattle.gen1_machine.specs.Falls.{faint_in_order, the_fallen_faint}
use Rattle.gen1_switching.proofs.Closed.{faints_not, nobody_fell}
use Rattle.gen1_switching.proofs.falls.faint_and_settle.Goals as goal

pub returns-then-nobody_has_fallen-clause-shown : goal.returns-then-nobody_has_fallen-clause-shown
unfolding the_fallen_faint faint_in_order
returns-then-nobody_has_fallen-clause-shown t c g p acted h =
    let actor = c.args.actor in
    let is = c.if-nobody_has_fallen.true in
    let a = faints_not (other actor) (nobody_fell _ _ (c.nobody_has_fallen.ensures.stands _ _ h.within) is (other actor)) h in
    let b = faints_not actor (nobody_fell _ _ (c.nobody_has_fallen.ensures.stands _ _ a.within) is actor) a in
    let d = seeing (λ q. q.action.side) faint_in_order (sym (ap (λ (x : Action). x.side) h.action ∙ acted)) (goes _ _ a b) in
    let none = nobody_fell _ (the_fallen_faint p).field (c.nobody_has_fallen.ensures.stands _ _ d.within) is in
    let e = c.go_on.ensures.shown g _ (none One) (none Two) d in
    (e.0, goes _ _ d e.1)

pub returns-clause-shown : goal.returns-clause-shown
unfolding the_fallen_faint
returns-clause-shown t c g p acted h =
    let a = c.faint_in_order.ensures.shown g p h in
    let b = seeing (λ q. q.action.side) faint_in_order (sym (ap (λ (x : Action). x.side) h.action ∙ acted)) a in
    let d = c.settle.ensures.shown g _ b in
    (d.0, goes _ _ b d.1)
