use Rattle.std.proofs.Common.{◌≡◌}
use Rattle.gen1_layout.proofs.Words.{ActiveConditions, active_holds, active_ok, arith, conditions_in, conditions_written, false, lit<, number_small, refl, slice_set, top_byte, ◌∙◌}
use Rattle.gen1_machine.specs.Conditions.{after_haze}
use Rattle.gen1_machine.specs.Layout.{condition_bits, conditions_number}
use Rattle.gen1_layout.proofs.packed.Packed.clear_by_haze.Goals as goal

pub returns : goal.returns
unfolding after_haze
returns c =
    record {
      stands = λ g f h.
          let old = active_ok c.args.side h in
          let known = old.conditions in
          let new : ActiveConditions = after_haze (conditions_in c.args.side f) in
          let block = c.active_mut-active.ensures.value ∙ active_holds h c.args.side in
          let is : c.bits.result ≡ conditions_number new = c.bits.ensures tt ∙ (let bits = condition_bits (conditions_in c.args.side f) in
          let e0 = c.with.ensures 6 refl bits (lit< tt) refl (c.conditions.ensures.stands g f h) in
          let e1 = c.with-2.ensures 7 refl (slice_set bits 6 false) (lit< tt) refl e0 in
          let e2 = c.with-3.ensures 8 refl (slice_set (slice_set bits 6 false) 7 false) (lit< tt) refl e1 in
          let e3 = c.with-4.ensures 12 refl (slice_set (slice_set (slice_set bits 6 false) 7 false) 8 false) (lit< tt) refl e2 in
          let e4 = c.with-5.ensures 13 refl (slice_set (slice_set (slice_set (slice_set bits 6 false) 7 false) 8 false) 12 false) (lit< tt) refl e3 in
          let e5 = c.with-6.ensures 14 refl (slice_set (slice_set (slice_set (slice_set (slice_set bits 6 false) 7 false) 8 false) 12 false) 13 false) (lit< tt) refl e4 in
          let e6 = c.with-7.ensures 15 refl (slice_set (slice_set (slice_set (slice_set (slice_set (slice_set bits 6 false) 7 false) 8 false) 12 false) 13 false) 14 false) (lit< tt) refl e5 in
          c.with-now.ensures 16 refl (slice_set (slice_set (slice_set (slice_set (slice_set (slice_set (slice_set bits 6 false) 7 false) 8 false) 12 false) 13 false) 14 false) 15 false) (lit< tt) refl e6) in
          let small = number_small new in
          let top = top_byte c.bits.result (omega (arith, is, small)) in
          conditions_written c.args.side after_haze new _ h refl (rw (c.write_u32.ensures, top, is, block) refl) (record { underway = known.underway; confused = tt; substitute = known.substitute; bad_poison = tt; disabled = tt });
    }
