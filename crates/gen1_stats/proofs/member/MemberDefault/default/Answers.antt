use Rattle.gen1_stats.proofs.Ranges.{least_member-fresh}
use Rattle.gen1_stats.proofs.member.MemberDefault.default.Goals as goal

pub invariant_of-result : goal.invariant_of-result
invariant_of-result c = rw (c.push.ensures.items, c.new-moves.ensures, c.default.ensures, c.default-2.ensures) least_member-fresh
