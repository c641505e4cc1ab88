use Rattle.std.proofs.Common.{◌+◌, ◌*◌, ◌%◌, ◌/◌, ◌≡◌, ap, arith, sym, ◌∙◌}
use Rattle.gen1_outcomes.specs.Nodes.{middle_of}
use Rattle.gen1_outcomes.specs.Bytes.{has, size}
use Rattle.gen1_outcomes.proofs.Sets.{same_size}
use Rattle.gen1_outcomes.proofs.nodes.Node.one_for.Goals as goal

pub returns-then-contains-clause-middle : goal.returns-then-contains-clause-middle
returns-then-contains-clause-middle c class run =
    let same : size class ≡ c.count.result = same_size class c.args.class.now (λ x lt. run.members x lt ∙ sym (c.requires.class x lt)) ∙ sym c.count.ensures in
    omega (arith, same, run.few, run.byte)

pub returns-else-contains-clause-middle : goal.returns-else-contains-clause-middle
returns-else-contains-clause-middle c class run =
    let same : size class ≡ c.count.result = same_size class c.args.class.now (λ x lt. run.members x lt ∙ sym (c.requires.class x lt)) ∙ sym c.count.ensures in
    let at : middle_of c.args.first (size class) ≡ (c.args.first + c.min.result / 2 * 2) % 256 = omega (arith, same, run.few, run.byte) in
    let none = c.contains.ensures.absent c.if-contains.false in
    let some = run.left in
    absurd (omega (arith, none, some, ap (has c.args.self.now.rest) at))
