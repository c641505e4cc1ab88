use Rattle.std.proofs.Common.{◌≡◌, map, take, drop, ◌++◌}
use Rattle.gen1_rolls.specs.Streams.{renewed}
use Rattle.gen1_rolls.proofs.link.turn.Given as goal

abbrev pub invariant-loop-place : goal.invariant-loop-place
invariant-loop-place l = l.numbers ≡ map renewed (take l.place l.initial.numbers) ++ drop l.place l.initial.numbers
