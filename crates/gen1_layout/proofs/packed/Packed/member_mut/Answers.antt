use Rattle.std.proofs.Common.{arith, refl, ◌+◌, ◌-◌, ◌≡◌, ◌∙◌}
use Rattle.gen1_layout.proofs.Views.{member-leaves, member-value}
use Rattle.gen1_layout.proofs.packed.Packed.member_mut.Goals as goal

pub returns : goal.returns
returns c =
    let p = c.args.self.now in
    let s = c.args.side in
    let place = c.args.place in
    let r = c.start_of_member-from.result in
    let v = c.part_mut.ensures.value in
    let count : r + 24 - r ≡ 24 = omega arith in
    let at = c.start_of_member-from.ensures.at in
    let low = c.requires.low in
    let high = c.requires.high in
    rw (count, at)
    ((refl, λ w. member-leaves p v.2 v.3 s place w low high), record { writes_back = tt; value = rw (count, at) at v.0 ∙ member-value p v.2 v.3 s place low high; len = rw count at v.1 })
