use Rattle.std.proofs.Common.{ℕ, ◌-◌, ◌<◌, ◌≤◌}
use Rattle.gen1_layout.specs.Loading.{member_bytes, PassesPlace}
use Rattle.gen1_layout.proofs.loading.member.are_members.Given as goal

abbrev pub invariant-places : goal.invariant-places
invariant-places l =
    (place : ℕ) → 2 ≤ place → place < l.place → PassesPlace l.rules (member_bytes (place - 1) l.side) (member_bytes place l.side)
