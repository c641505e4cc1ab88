use Rattle.gen1_layout.proofs.Words.{Some, active_ok, arith, conditions_in, lit<, lit≤, refl, underway_in}
use Rattle.gen1_layout.proofs.packed.Packed.put_trapping.Goals as goal

pub returns : goal.returns
returns c =
    record {
      stands = λ g f change h makes low no_bide no_thrash.
          let known = (active_ok c.args.side h).conditions in
          let u = known.underway in
          c.put_count.ensures.stands 2 refl (lit< tt) g f change (record (conditions_in c.args.side f) { underway = record (underway_in c.args.side f) { trapping = Some c.args.turns } }) h makes refl (rw (no_bide, no_thrash) refl)
          (record { underway = record { bide = u.bide; thrash = u.thrash; trapping = (omega arith, low); alone = rw (no_bide, no_thrash) (lit≤ tt) }; confused = known.confused; substitute = known.substitute; bad_poison = known.bad_poison; disabled = known.disabled });
    }
