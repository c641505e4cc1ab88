-- No weight so far is above the highest one.
use Rattle.std.specs.Prelude.{slice_index_or}
use Rattle.std.proofs.Common.{ℕ, ◌<◌, ◌≤◌}
use Rattle.gen1_playouts.proofs.weights.has_weights.Given as goal

abbrev pub invariant-loop-number : goal.invariant-loop-number
invariant-loop-number l = (number : ℕ) → number < l.number → slice_index_or l.table number 0 ≤ l.most
