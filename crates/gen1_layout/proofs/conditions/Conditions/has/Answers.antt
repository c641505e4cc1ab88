use Rattle.std.proofs.Common.{◌≡◌, ◌∙◌}
use Rattle.gen1_layout.proofs.Counts.{bit_read, bits_of, bits_of-is, power_is}
use Rattle.gen1_layout.proofs.conditions.Conditions.has.Goals as goal

pub returns : goal.returns
returns c k e bits is =
    let now : c.args.self.0 ≡ bits_of bits = is ∙ bits_of-is bits in
    let one = e ∙ power_is k in
    c.contains.ensures tt ∙ rw (now, one) (bit_read bits k)
