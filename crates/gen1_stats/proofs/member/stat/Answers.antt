use Rattle.gen1_stats.proofs.Roots.{root-is}
use Rattle.gen1_stats.proofs.member.stat.Goals as goal

pub returns-clause-rounded_up : goal.returns-clause-rounded_up
returns-clause-rounded_up c = root-is c.args.exp
