use Rattle.std.proofs.Common.{refl, ◌∙◌}
use Rattle.gen1_layout.proofs.Views.{length-sides, sides-leave, sides-value}
use Rattle.gen1_layout.proofs.packed.Packed.sides_mut.Goals as goal

pub returns : goal.returns
returns c =
    let p = c.args.self.now in
    let v = c.part_mut.ensures.value in
    ((refl, sides-leave p v.2 v.3), record { writes_back = tt; value = v.0 ∙ sides-value p v.2 v.3; len = v.1; each = length-sides p v.2 v.3 })
