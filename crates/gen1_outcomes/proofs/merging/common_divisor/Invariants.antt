use Rattle.std.proofs.Common.{ℕ, ◌+◌, ◌<◌}
use Rattle.std.specs.Int.{IsGcd}
use Rattle.gen1_outcomes.proofs.merging.common_divisor.Given as goal

abbrev pub invariant-loop-right : goal.invariant-loop-right
invariant-loop-right l =
    record {
      positive : 0 < l.left + l.right;
      greatest : (g : ℕ) → IsGcd l.left l.right g → IsGcd l.fn.one l.fn.other g;
    }

abbrev pub decreases-loop-right : goal.decreases-loop-right
decreases-loop-right l = l.right
