-- The members so far.
use Rattle.std.proofs.Common.{map, take, ◌≡◌}
use Rattle.arrayvec.specs.ArrayVec.{array_vec_len}
use Rattle.gen1_spectator.proofs.Following.{first_shown}
use Rattle.gen1_spectator.proofs.side_view.unhurt.Given as goal

abbrev pub invariant-loop-member : goal.invariant-loop-member
invariant-loop-member l = (array_vec_len l.shown ≡ l.member-index) × (l.shown.items ≡ map first_shown (take l.member-index l.members))
