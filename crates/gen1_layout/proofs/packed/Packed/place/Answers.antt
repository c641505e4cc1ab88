use Rattle.std.proofs.Common.{◌≡◌}
use Rattle.gen1_layout.proofs.Words.{List, active_in, ap, arith, slice_index, ℕ}
use Rattle.gen1_layout.proofs.Steps.{party_in}
use Rattle.gen1_layout.proofs.packed.Packed.place.Goals as goal

pub returns-clause-stands : goal.returns-clause-stands
returns-clause-stands c g f h =
    let block = c.active.ensures.stands g f h in
    let at : slice_index c.active.result.now 0 ≡ (active_in c.args.side f).place = ap (λ (l : List ℕ). slice_index l 0) block in
    let v = party_in g f c.args.side h.storable in
    omega (arith, at, c.max.ensures, c.min.ensures, v.place.0, v.place.1, v.members.size.1)
