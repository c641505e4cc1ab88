use Rattle.std.proofs.Common.{◌≡◌}
use Rattle.gen1_layout.proofs.Words.{ActiveConditions, active_holds, active_ok, ap, arith, conditions_in, conditions_written, length, member_in, number_small, refl, sym, top_byte, ◌∙◌}
use Rattle.gen1_machine.specs.Layout.{condition_bits, conditions_number, number_of_bits}
use Rattle.gen1_layout.proofs.Counts.{same_storable}
use Rattle.gen1_layout.proofs.packed.Packed.put_flag.Goals as goal

pub returns : goal.returns
returns c =
    record {
      stands = λ k e low g f change h flagged same.
          let new : ActiveConditions = change (conditions_in c.args.side f) in
          let block = c.active_mut.ensures.value ∙ active_holds h c.args.side in
          let is : c.bits.result ≡ conditions_number new =
          c.bits.ensures tt ∙ (c.with-now.ensures k e (condition_bits (conditions_in c.args.side f)) low refl (c.conditions.ensures.stands g f h) ∙ sym (ap number_of_bits flagged)) in
          let small = number_small new in
          let top = top_byte c.bits.result (omega (arith, is, small)) in
          conditions_written c.args.side change new _ h refl
          (rw (c.write_u32.ensures, top, is, block, same.bide, same.thrash, same.trapping, same.confused, same.substitute, same.bad_poison, same.disabled) refl)
          (same_storable (length (member_in c.args.side f).moves) new (conditions_in c.args.side f) same (active_ok c.args.side h).conditions);
    }
