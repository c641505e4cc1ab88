use Rattle.std.proofs.Common.{Bool, Some, ap, arith, if◌then◌else◌, sym, None, nat_le, ℕ, ◌≡◌, ◌∙◌}
use Rattle.gen1_machine.specs.Conditions.{energy_with, Storing}
use Rattle.gen1_machine.specs.GoingOn.{let_out}
use Rattle.gen1_machine.specs.Layout.{energy_of}
use Rattle.gen1_machine.specs.State.{underway_in}
use Rattle.gen1_status.proofs.Statuses.{at_most, not_at_most}
use Rattle.gen1_multiturn.specs.GoingOn.{energy_let_out}
use Rattle.gen1_multiturn.proofs.Underways.{not-stored, stored-is}
use Rattle.gen1_multiturn.proofs.moves.bide.energy_let_out.Goals as goal

pub returns-in_err-turns : goal.returns-in_err-turns
returns-in_err-turns c g f h =
    let none = not-stored (underway_in c.args.side f).bide (sym (c.bide.ensures.stands g f h) ∙ c.in_err-turns.was) in
    let gives = c.from_residual.ensures in
    let due = sym (ap (energy_let_out f.last_damage) none) in cc

pub returns-then-turns-le1 : goal.returns-then-turns-le1
returns-then-turns-le1 c g f h =
    let o = (underway_in c.args.side f).bide in
    let b : Storing = record { turns = c.in_ok-turns.turns; energy = energy_of o } in
    let is = stored-is o c.in_ok-turns.turns (sym (c.bide.ensures.stands g f h) ∙ c.in_ok-turns.was) in
    let energy = c.energy.ensures.stands g f h in
    let last = c.last_damage.ensures.stands g f h in
    let so : (if nat_le b.turns 1 then Some (let_out (energy_with f.last_damage b)) else None) ≡ Some (let_out (energy_with f.last_damage b)) =
    ap (λ (x : Bool). if x then Some (let_out (energy_with f.last_damage b)) else None) (at_most _ 1 c.if-turns-le1.true) in
    ap (λ (n : ℕ). Some n) (omega (arith, energy, last)) ∙ sym (ap (energy_let_out f.last_damage) is ∙ so)

pub returns : goal.returns
returns c g f h =
    let o = (underway_in c.args.side f).bide in
    let b : Storing = record { turns = c.in_ok-turns.turns; energy = energy_of o } in
    let is = stored-is o c.in_ok-turns.turns (sym (c.bide.ensures.stands g f h) ∙ c.in_ok-turns.was) in
    ap (λ (x : Bool). if x then Some (let_out (energy_with f.last_damage b)) else None) (sym (not_at_most _ 1 c.if-turns-le1.false))
    ∙ sym (ap (energy_let_out f.last_damage) is)
