use Rattle.gen1_layout.proofs.Words.{None, Option, Some, arith, given, if_not, if_so, refl, seeing, stays, sym, underway_in, ◌∙◌}
use Rattle.gen1_machine.specs.Conditions.{energy_with, Storing}
use Rattle.gen1_machine.specs.GoingOn.{bide_goes_on, bide_on}
use Rattle.gen1_machine.specs.Layout.{energy_of}
use Rattle.gen1_machine.specs.Progress.{last_damage}
use Rattle.gen1_status.proofs.Statuses.{at_most, not_at_most}
use Rattle.gen1_multiturn.proofs.Underways.{not-stored, stored-is}
use Rattle.gen1_multiturn.proofs.moves.bide.bide_knowing.Goals as goal

pub returns-in_default-clause-shown : goal.returns-in_default-clause-shown
unfolding bide_goes_on bide_on
returns-in_default-clause-shown t c g p h =
    let s = c.args.side in
    let none = not-stored (underway_in s p.field).bide (sym (c.bide.ensures.stands _ _ h.within) ∙ c.in_default.is) in
    seeing _ (λ (o : Option Storing). given last_damage (bide_on s o)) (sym none) (seeing last_damage (bide_on s None) refl (stays h))

pub returns-then-turns-le1-clause-shown : goal.returns-then-turns-le1-clause-shown
unfolding bide_goes_on bide_on
returns-then-turns-le1-clause-shown t c g p h =
    let s = c.args.side in
    let o = (underway_in s p.field).bide in
    let b : Storing = record { turns = c.in-Some.turns; energy = energy_of o } in
    let is = stored-is o c.in-Some.turns (sym (c.bide.ensures.stands _ _ h.within) ∙ c.in-Some.is) in
    let energy = c.energy.ensures.stands _ _ h.within in
    let last = c.last_damage.ensures.stands _ _ h.within in
    seeing _ (λ (x : Option Storing). given last_damage (bide_on s x)) (sym is)
    (seeing last_damage (bide_on s (Some b)) refl
    (if_so _ _ _ (at_most _ 1 c.if-turns-le1.true) (c.let_energy_go.ensures.shown (energy_with p.field.last_damage b) (omega (arith, energy, last)) g p h)))

pub returns-clause-shown : goal.returns-clause-shown
unfolding bide_goes_on bide_on
returns-clause-shown t c g p h =
    let s = c.args.side in
    let o = (underway_in s p.field).bide in
    let b : Storing = record { turns = c.in-Some.turns; energy = energy_of o } in
    let is = stored-is o c.in-Some.turns (sym (c.bide.ensures.stands _ _ h.within) ∙ c.in-Some.is) in
    let energy = c.energy.ensures.stands _ _ h.within in
    let last = c.last_damage.ensures.stands _ _ h.within in
    seeing _ (λ (x : Option Storing). given last_damage (bide_on s x)) (sym is)
    (seeing last_damage (bide_on s (Some b)) refl
    (if_not _ _ _ (not_at_most _ 1 c.if-turns-le1.false)
    (c.store_energy.ensures.shown p.field.last_damage b c.saturating_sub.ensures (omega (arith, energy, last)) _ p is h)))
