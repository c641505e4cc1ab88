use Rattle.std.proofs.Common.{◌≡◌, ◌+◌, ◌≤◌, length, not, take}
use Rattle.std.specs.Prelude.{◌==◌}
use Rattle.std.specs.List.{suffix_len}
use Rattle.gen1_text.proofs.text.species_text.Given as goal

abbrev pub invariant-loop-start : goal.invariant-loop-start
invariant-loop-start l =
    (l.start + suffix_len (λ b. not (b == 40)) l.line ≡ length l.line + suffix_len (λ b. not (b == 40)) (take l.start l.line)) × (l.start ≤ length l.line)

abbrev pub decreases-loop-start : goal.decreases-loop-start
decreases-loop-start l = l.start
