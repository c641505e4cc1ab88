use Rattle.std.proofs.Common.{arith}
use Rattle.gen1_outcomes.proofs.Sets.{size_above, size_under}
use Rattle.gen1_outcomes.proofs.nodes.other_side.Goals as goal

pub returns-then-byte-bound-clause-count : goal.returns-then-byte-bound-clause-count
returns-then-byte-bound-clause-count c =
    let known = size_above c.all.result c.below-below.result c.without.result c.args.bound (omega arith) c.all.ensures c.below-below.ensures c.without.ensures in
    omega (arith, known, c.from.ensures)

pub returns-else-byte-bound-clause-count : goal.returns-else-byte-bound-clause-count
returns-else-byte-bound-clause-count c =
    let known = size_under c.below-below.result c.args.bound (omega arith) c.below-below.ensures in
    omega (arith, known)
