use Rattle.std.proofs.Common.{get_or, length, ℕ, ◌+◌, ◌<◌, ◌≡◌}
use Rattle.gen1_hits.specs.DamageNumbers.{varied}
use Rattle.gen1_hits.proofs.damage_formula.at_factors.Given as goal

-- The entries so far are written.
abbrev pub invariant-loop-place : goal.invariant-loop-place
invariant-loop-place l = (length l.entry-items ≡ 39) × ((k : ℕ) → k < l.place → get_or l.entry-items k 0 ≡ varied (217 + k) l.damage)
