use Rattle.std.proofs.Common.{◌≡◌, ◌∙◌}
use Rattle.gen1_layout.proofs.Counts.{any_read, bits_of, bits_of-is}
use Rattle.gen1_layout.proofs.conditions.Conditions.has_any.Goals as goal

pub returns : goal.returns
returns c places e bits is =
    let now : c.args.self.0 ≡ bits_of bits = is ∙ bits_of-is bits in
    c.intersects.ensures tt ∙ rw (now, e) (any_read bits places)
