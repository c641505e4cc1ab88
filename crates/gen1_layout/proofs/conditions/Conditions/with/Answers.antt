use Rattle.std.proofs.Common.{arith, length, sym, ◌≡◌, ◌≤◌, ◌∙◌}
use Rattle.gen1_layout.proofs.Counts.{bits_clear, bits_of, bits_of-is, bits_set, power_is}
use Rattle.gen1_layout.proofs.conditions.Conditions.with.Goals as goal

pub returns-then-on : goal.returns-then-on
returns-then-on c k e bits inside long is =
    let before : c.args.self.0 ≡ bits_of bits = is ∙ bits_of-is bits in
    let one = e ∙ power_is k in
    c.insert.ensures tt ∙ rw (before, one, c.if-on.true) (bits_set bits k inside ∙ sym (bits_of-is _))

pub returns-else-on : goal.returns-else-on
returns-else-on c k e bits inside long is =
    let before : c.args.self.0 ≡ bits_of bits = is ∙ bits_of-is bits in
    let one = e ∙ power_is k in
    let few : length bits ≤ 32 = omega arith in
    c.remove.ensures tt ∙ rw (before, one, c.if-on.false) (bits_clear bits k 32 inside few ∙ sym (bits_of-is _))
