use Rattle.std.proofs.Common.{ℕ, Bool, IsFalse, ◌<◌, ◌≤◌, slice_index}
use Rattle.gen1_rolls.specs.Draws.{Settles}
use Rattle.gen1_rolls.proofs.link.place_from.Given as goal

abbrev pub invariant-places : goal.invariant-places
invariant-places g l =
    (p : ℕ → Bool) → Settles (goal.F-post g l.test) p → (k : ℕ) → l.from ≤ k → k < l.place → IsFalse (p (slice_index l.numbers k))
