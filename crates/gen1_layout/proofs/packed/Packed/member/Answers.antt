use Rattle.std.proofs.Common.{arith, sym, ◌+◌, ◌-◌, ◌≡◌, ◌∙◌}
use Rattle.gen1_layout.proofs.Views.{member-part}
use Rattle.gen1_layout.proofs.WaysBack.{any_holds}
use Rattle.gen1_layout.proofs.packed.Packed.member.Goals as goal

pub returns-clause-value : goal.returns-clause-value
returns-clause-value c =
    let r = c.start_of_member-from.result in
    let count : r + 24 - r ≡ 24 = omega arith in
    rw (count, c.start_of_member-from.ensures.at, ← c.self.view_is)
    (sym (member-part c.args.side c.args.place c.self.inside.0 c.requires.low c.requires.high))

pub returns-clause-packs : goal.returns-clause-packs
returns-clause-packs c g f h = returns-clause-value c ∙ any_holds h c.args.side c.args.place c.requires.low c.requires.high
