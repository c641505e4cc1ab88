use Rattle.std.proofs.Common.{arith, refl, ◌+◌, ◌-◌, ◌≡◌, ◌∙◌}
use Rattle.gen1_layout.proofs.Views.{side-leaves, side-value}
use Rattle.gen1_layout.proofs.packed.Packed.side_mut.Goals as goal

pub returns : goal.returns
returns c =
    let p = c.args.self.now in
    let r = c.start_of_side-from.result in
    let v = c.part_mut.ensures.value in
    let count : r + 180 - r ≡ 180 = omega arith in
    let at = c.start_of_side-from.ensures.at in
    rw (count, at) ((refl, side-leaves p v.2 v.3 c.args.side), record { writes_back = tt; value = rw (count, at) at v.0 ∙ side-value p v.2 v.3 c.args.side; len = rw count at v.1 })
