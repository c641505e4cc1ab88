use Rattle.std.proofs.Common.{arith, refl, ◌+◌, ◌-◌, ◌≡◌, ◌∙◌}
use Rattle.gen1_layout.proofs.Views.{active-leaves, active-value}
use Rattle.gen1_layout.proofs.packed.Packed.active_mut.Goals as goal

pub returns : goal.returns
returns c =
    let p = c.args.self.now in
    let r = c.start_of_side-from.result in
    let v = c.part_mut.ensures.value in
    let count : r + 144 + 36 - (r + 144) ≡ 36 = omega arith in
    let at = c.start_of_side-from.ensures.at in
    rw (count, at) ((refl, active-leaves p v.2 v.3 c.args.side), record { writes_back = tt; value = rw (count, at) at v.0 ∙ active-value p v.2 v.3 c.args.side; len = rw count at v.1 })
