use Rattle.std.proofs.Common.{◌+◌, ◌≡◌}
use Rattle.gen1_outcomes.specs.Listing.{sum_of}
use Rattle.gen1_outcomes.proofs.outcomes.sums_to.Given as goal

abbrev pub invariant-loop-successor : goal.invariant-loop-successor
invariant-loop-successor l = l.sum ≡ sum_of l.successor-index l.successors + l.left_out
