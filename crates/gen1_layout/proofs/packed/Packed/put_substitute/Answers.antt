use Rattle.gen1_layout.proofs.Words.{active_ok, conditions_in, lit<, refl}
use Rattle.gen1_layout.proofs.packed.Packed.put_substitute.Goals as goal

pub returns : goal.returns
returns c =
    record {
      stands = λ g f change h makes ok.
          let known = (active_ok c.args.side h).conditions in
          c.put_count.ensures.stands 9 refl (lit< tt) g f change (record (conditions_in c.args.side f) { substitute = c.args.hp }) h makes (rw c.is_some.ensures refl) (rw c.byte_of_count-byte.ensures refl)
          (record { underway = known.underway; confused = known.confused; substitute = ok; bad_poison = known.bad_poison; disabled = known.disabled });
    }
