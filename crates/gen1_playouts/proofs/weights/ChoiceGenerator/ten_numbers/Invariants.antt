-- The first numbers are those that were drawn.
use Rattle.std.proofs.Common.{length, take, ◌≡◌}
use Rattle.gen1_playouts.specs.Playouts.{numbers_from}
use Rattle.gen1_playouts.proofs.weights.ChoiceGenerator.ten_numbers.Given as goal

abbrev pub invariant-loop-place : goal.invariant-loop-place
invariant-loop-place l =
    (length l.numbers ≡ 10)
    × (take l.place l.numbers ≡ (numbers_from l.initial.self.state l.place).drawn)
    × (l.self.state ≡ (numbers_from l.initial.self.state l.place).random)
