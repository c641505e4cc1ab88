use Rattle.std.proofs.Common.{arith, sym, ◌∙◌}
use Rattle.gen1_playouts.proofs.Playing.{weight-even, weight-odd}
use Rattle.gen1_playouts.proofs.weights.weight_at.Goals as goal

pub returns-then-mask-eq1-clause-value : goal.returns-then-mask-eq1-clause-value
returns-then-mask-eq1-clause-value c = c.from.ensures ∙ sym (weight-odd c.args.mask c.args.weight c.if-mask-eq1.true)

pub returns-else-mask-eq1-clause-value : goal.returns-else-mask-eq1-clause-value
returns-else-mask-eq1-clause-value c = sym (weight-even c.args.mask c.args.weight (omega (arith, c.if-mask-eq1.false)))
