-- The bytes that are gone from `rest` were appended, and no write has failed.
use Rattle.std.proofs.Common.{◌≡◌, List, ℕ, ◌++◌, length}
use Rattle.std.specs.Io.KnownBytes.{Appends}
use Rattle.gen1_devices.proofs.io.send.Given as goal

abbrev pub invariant-loop-rest : goal.invariant-loop-rest
invariant-loop-rest g l =
    (done : List ℕ) × (l.initial.rest ≡ done ++ l.rest) × Appends (g.W.Sink.contents l.initial.sink) (g.W.Sink.contents l.sink) done
    × (g.W.Sink.has_failed l.sink ≡ g.W.Sink.has_failed l.initial.sink)

abbrev pub decreases-loop-rest : goal.decreases-loop-rest
decreases-loop-rest g l = length l.rest
