use Rattle.std.proofs.Common.{arith, refl, ◌+◌, ◌-◌, ◌≡◌, ◌∙◌}
use Rattle.gen1_layout.proofs.Words.{active_in, out_holds}
use Rattle.gen1_layout.proofs.Steps.{party_in}
use Rattle.gen1_layout.proofs.Out.{out_starts}
use Rattle.gen1_layout.proofs.Views.{member-value}
use Rattle.gen1_layout.proofs.packed.Packed.member_out_mut.Goals as goal

pub returns : goal.returns
returns c =
    let p = c.args.self.now in
    let s = c.args.side in
    let r = c.start_of_out-at.result in
    let v = c.part_mut.ensures.value in
    let at = c.start_of_out-at.ensures.at in
    let count : r + 24 - r ≡ 24 = omega arith in
    rw at (
      (refl, λ w. refl),
      record {
        writes_back = tt;
        stands = λ g f h.
            let place = (active_in s f).place in
            let party = party_in g f s h.storable in
            rw (count, at ∙ out_starts h s) at v.0 ∙ member-value p v.2 v.3 s place party.place.0 (omega (arith, party.place.1, party.members.size.1)) ∙ out_holds h s place refl;
        len = rw count at v.1;
        packed = (v.2, v.3);
      },
    )
