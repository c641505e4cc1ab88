use Rattle.std.proofs.Common.{◌≤◌}
use Rattle.gen1_stats.specs.Stats.{root}
use Rattle.gen1_writer.proofs.numbers.ev.Given as goal

abbrev pub invariant-loop-ev : goal.invariant-loop-ev
invariant-loop-ev l = l.ev ≤ root l.exp
