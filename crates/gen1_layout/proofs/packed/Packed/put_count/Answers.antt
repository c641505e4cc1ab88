use Rattle.std.proofs.Common.{length-set, set, ◌≡◌}
use Rattle.gen1_layout.proofs.Words.{active_holds, active_in, ap, arith, conditions_in, conditions_written, member_in, number_small, refl, sym, top_byte, ◌∙◌}
use Rattle.gen1_machine.specs.Layout.{condition_bits, conditions_number, number_of_bits}
use Rattle.gen1_layout.proofs.Counts.{count_block, marked}
use Rattle.gen1_layout.proofs.Views.{refill-same}
use Rattle.gen1_layout.proofs.packed.Packed.put_count.Goals as goal

pub returns : goal.returns
returns c =
    record {
      stands = λ k e low g f change new h makes flagged counted ok.
          let s = c.args.side in
          let m = member_in s f in
          let a = active_in s f in
          let block = c.active_mut-active.ensures.value ∙ active_holds h s in
          let is : c.bits.result ≡ conditions_number new =
          c.bits.ensures tt ∙ (c.with-set.ensures k e (condition_bits (conditions_in s f)) low refl (c.conditions.ensures.stands g f h) ∙ sym (ap number_of_bits flagged)) in
          let small = number_small new in
          let top = top_byte c.bits.result (omega (arith, is, small)) in
          conditions_written s change new _ h makes
          (rw (c.write_u32.ensures, top, is, block)
          (refill-same 36 _ (set (marked m a new) c.args.at c.args.byte) (length-set (marked m a new) c.args.at c.args.byte)
          ∙ count_block c.args.at c.args.byte m a new c.requires.first c.requires.last counted))
          ok;
    }
