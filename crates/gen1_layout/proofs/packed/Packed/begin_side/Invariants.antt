use Rattle.std.proofs.Common.{◌-◌, ◌≡◌}
use Rattle.gen1_layout.proofs.WaysBack.{begun_side}
use Rattle.gen1_layout.proofs.packed.Packed.begin_side.Given as goal

abbrev pub invariant-loop-place : goal.invariant-loop-place
invariant-loop-place l = l.self ≡ begun_side l.side (l.place - 1) l.members l.initial.self
