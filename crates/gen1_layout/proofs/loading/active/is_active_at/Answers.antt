use Rattle.std.proofs.Common.{arith}
use Rattle.gen1_layout.proofs.loading.active.is_active_at.Goals as goal

pub returns-then-turn-eq0 : goal.returns-then-turn-eq0
returns-then-turn-eq0 c = (
  λ zero. record { before = λ _. rw c.active_bytes.ensures.value at (c.are_zero.ensures.0 zero); later = λ begun. absurd (omega arith) },
  λ passes. c.are_zero.ensures.1 (rw c.active_bytes.ensures.value (passes.before (omega arith))),
)
