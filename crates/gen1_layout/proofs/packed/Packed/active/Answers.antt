use Rattle.std.proofs.Common.{◌+◌, ◌-◌, ◌≡◌}
use Rattle.gen1_layout.proofs.Words.{active_holds, arith, sym, ◌∙◌}
use Rattle.gen1_layout.proofs.Views.{active-part}
use Rattle.gen1_layout.proofs.packed.Packed.active.Goals as goal

pub returns-clause-value : goal.returns-clause-value
returns-clause-value c =
    let r = c.start_of_side-from.result in
    let count : r + 144 + 36 - (r + 144) ≡ 36 = omega arith in
    rw (count, c.start_of_side-from.ensures.at, ← c.self.view_is) (sym (active-part c.args.side c.self.inside.0))

pub returns-clause-stands : goal.returns-clause-stands
returns-clause-stands c g f h = returns-clause-value c ∙ active_holds h c.args.side
