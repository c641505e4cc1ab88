use Rattle.std.proofs.Common.{◌≡◌}
use Rattle.gen1_layout.proofs.Words.{ActiveConditions, Some, active_holds, active_ok, arith, conditions_in, conditions_written, lit<, lit≤, number_small, refl, top_byte, underway_in, ◌∙◌}
use Rattle.gen1_machine.specs.Layout.{condition_bits, conditions_number}
use Rattle.gen1_layout.proofs.packed.Packed.put_bide.Goals as goal

pub returns : goal.returns
returns c =
    record {
      stands = λ g f change h makes low no_thrash no_trapping.
          let old = active_ok c.args.side h in
          let known = old.conditions in
          let new : ActiveConditions = record (conditions_in c.args.side f) { underway = record (underway_in c.args.side f) { bide = Some (record { turns = c.args.turns; energy = c.args.energy }) } } in
          let block = c.active_mut-active.ensures.value ∙ active_holds h c.args.side in
          let is : c.bits.result ≡ conditions_number new = c.bits.ensures tt ∙ (c.with-now.ensures 0 refl (condition_bits (conditions_in c.args.side f)) (lit< tt) refl (c.conditions.ensures.stands g f h)) in
          let small = number_small new in
          let top = top_byte c.bits.result (omega (arith, is, small)) in
          let u = known.underway in
          conditions_written c.args.side change new _ h makes (rw (c.write_u16.ensures, c.write_u32.ensures, top, is, block) refl)
          (record { underway = record { bide = (low, omega arith); thrash = u.thrash; trapping = u.trapping; alone = rw (no_thrash, no_trapping) (lit≤ tt) }; confused = known.confused; substitute = known.substitute; bad_poison = known.bad_poison; disabled = known.disabled });
    }
