use Rattle.std.proofs.Common.{◌≡◌, ℕ, ◌<◌}
use Rattle.gen1_machine.specs.Stages.{now_at}
use Rattle.gen1_layout.proofs.loading.stats.comes_from.Given as goal

abbrev pub invariant-penalties : goal.invariant-penalties
invariant-penalties l = (k : ℕ) → k < l.times → l.current ≡ now_at l.unmodified l.stage l.stat k → ⊥
