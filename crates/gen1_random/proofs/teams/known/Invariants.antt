use Rattle.std.proofs.Common.{map, take, ℕ, ◌≡◌}
use Rattle.gen1_random.proofs.teams.known.Given as goal

-- The moves so far.
abbrev pub invariant-loop-number : goal.invariant-loop-number
invariant-loop-number l = l.known.items ≡ map (λ (id : ℕ). (id, 3)) (take l.number-index l.moves)
