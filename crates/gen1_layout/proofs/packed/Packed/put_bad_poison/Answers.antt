use Rattle.gen1_layout.proofs.Words.{active_ok, conditions_in, lit<, refl}
use Rattle.gen1_layout.proofs.packed.Packed.put_bad_poison.Goals as goal

pub returns : goal.returns
returns c =
    record {
      stands = λ g f change h makes ok.
          let known = (active_ok c.args.side h).conditions in
          c.put_count.ensures.stands 13 refl (lit< tt) g f change (record (conditions_in c.args.side f) { bad_poison = c.args.count }) h makes (rw c.is_some.ensures refl) (rw c.byte_of_count-byte.ensures refl)
          (record { underway = known.underway; confused = known.confused; substitute = known.substitute; bad_poison = ok; disabled = known.disabled });
    }
