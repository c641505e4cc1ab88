use Rattle.std.proofs.Common.{◌≡◌, ℕ, ◌*◌, ◌<◌}
use Rattle.gen1_outcomes.specs.Bytes.{has}
use Rattle.gen1_outcomes.proofs.byte_set.ByteSet.first.Given as goal

abbrev pub invariant-words : goal.invariant-words
invariant-words l = (b : ℕ) → b < 64 * l.place → has l.self b ≡ 0
