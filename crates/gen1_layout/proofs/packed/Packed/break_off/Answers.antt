use Rattle.std.proofs.Common.{◌≡◌}
use Rattle.gen1_layout.proofs.Words.{ActiveConditions, active_holds, active_ok, arith, conditions_in, conditions_written, false, lit<, lit≤, number_small, refl, slice_set, top_byte, ◌∙◌}
use Rattle.gen1_machine.specs.Conditions.{broken_off}
use Rattle.gen1_machine.specs.Layout.{condition_bits, conditions_number}
use Rattle.gen1_layout.proofs.packed.Packed.break_off.Goals as goal

pub returns : goal.returns
unfolding broken_off
returns c =
    record {
      stands = λ g f h.
          let old = active_ok c.args.side h in
          let known = old.conditions in
          let new : ActiveConditions = broken_off (conditions_in c.args.side f) in
          let block = c.active_mut-active.ensures.value ∙ active_holds h c.args.side in
          let is : c.bits.result ≡ conditions_number new = c.bits.ensures tt ∙ (let bits = condition_bits (conditions_in c.args.side f) in
          let one = c.with.ensures 0 refl (condition_bits (conditions_in c.args.side f)) (lit< tt) refl (c.conditions.ensures.stands g f h) in
          let two = c.with-2.ensures 1 refl (slice_set bits 0 false) (lit< tt) refl one in
          let three = c.with-3.ensures 2 refl (slice_set (slice_set bits 0 false) 1 false) (lit< tt) refl two in
          c.with-now.ensures 4 refl (slice_set (slice_set (slice_set bits 0 false) 1 false) 2 false) (lit< tt) refl three) in
          let small = number_small new in
          let top = top_byte c.bits.result (omega (arith, is, small)) in
          conditions_written c.args.side broken_off new _ h refl (rw (c.write_u16.ensures, c.write_u32.ensures, top, is, block) refl)
          (record { underway = record { bide = tt; thrash = tt; trapping = tt; alone = lit≤ tt }; confused = known.confused; substitute = known.substitute; bad_poison = known.bad_poison; disabled = known.disabled });
    }
