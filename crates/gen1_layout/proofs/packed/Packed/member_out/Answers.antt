use Rattle.std.proofs.Common.{◌+◌, ◌-◌, ◌≡◌}
use Rattle.gen1_layout.proofs.Words.{Parts, active_in, ap, arith, out_holds, refl, sym, ◌∙◌}
use Rattle.gen1_layout.specs.Parts.{member_at, member_of}
use Rattle.gen1_layout.proofs.Steps.{party_in}
use Rattle.gen1_layout.proofs.Out.{out_starts}
use Rattle.gen1_layout.proofs.Views.{member-part}
use Rattle.gen1_layout.proofs.packed.Packed.member_out.Goals as goal

pub returns-clause-stands : goal.returns-clause-stands
returns-clause-stands c g f h =
    let s = c.args.side in
    let place = (active_in s f).place in
    let v = party_in g f s h.storable in
    let at = c.start_of_out-at.ensures.at ∙ out_starts h s in
    let count : member_at s place + 24 - member_at s place ≡ 24 = omega arith in
    rw (at, count)
    (sym (member-part s place c.self.inside.0 v.place.0 (omega (arith, v.place.1, v.members.size.1)))
    ∙ ap (λ (p : Parts). member_of s place p) c.self.view_is ∙ out_holds h s place refl)
