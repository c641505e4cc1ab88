use Rattle.std.proofs.Common.{◌≡◌, length}
use Rattle.gen1_text.specs.MemberLines.{has_inside}
use Rattle.gen1_text.proofs.cuts.has_inside.Given as goal

abbrev pub invariant-loop-others : goal.invariant-loop-others
invariant-loop-others l = has_inside l.part l.rest ≡ has_inside l.part l.line

abbrev pub decreases-loop-others : goal.decreases-loop-others
decreases-loop-others l = length l.rest
