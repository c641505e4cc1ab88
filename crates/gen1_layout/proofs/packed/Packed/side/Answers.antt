use Rattle.std.proofs.Common.{arith, sym, ◌+◌, ◌-◌, ◌≡◌}
use Rattle.gen1_layout.proofs.Views.{side-joined}
use Rattle.gen1_layout.proofs.packed.Packed.side.Goals as goal

pub returns-clause-value : goal.returns-clause-value
returns-clause-value c =
    let r = c.start_of_side-from.result in
    let count : r + 180 - r ≡ 180 = omega arith in
    rw (count, c.start_of_side-from.ensures.at, ← c.self.view_is) (sym (side-joined c.args.side c.self.inside.0))
