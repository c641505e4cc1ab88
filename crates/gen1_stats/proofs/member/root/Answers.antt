use Rattle.std.proofs.Common.{rules}
use Rattle.gen1_stats.proofs.Roots.{root-is, root_unique}
use Rattle.gen1_stats.proofs.member.root.Goals as goal

pub returns-then-floor-exp-clause-value : goal.returns-then-floor-exp-clause-value
returns-then-floor-exp-clause-value c =
    root_unique c.args.exp c.isqrt-floor.result _ (search rules) (root-is c.args.exp)

pub returns-else-floor-exp-clause-value : goal.returns-else-floor-exp-clause-value
returns-else-floor-exp-clause-value c = root_unique c.args.exp c.min.result _ (search rules) (root-is c.args.exp)
