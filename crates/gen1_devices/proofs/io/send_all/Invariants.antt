-- The pieces so far were appended, and no write has failed.
use Rattle.std.proofs.Common.{◌≡◌, take}
use Rattle.std.specs.List.{flat_map}
use Rattle.std.specs.Io.KnownBytes.{Appends}
use Rattle.gen1_devices.proofs.io.send_all.Given as goal

abbrev pub invariant-loop-piece : goal.invariant-loop-piece
invariant-loop-piece g l =
    Appends (g.W.Sink.contents l.initial.sink) (g.W.Sink.contents l.sink) (flat_map (λ p. p.now) (take l.piece-index l.pieces))
    × (g.W.Sink.has_failed l.sink ≡ g.W.Sink.has_failed l.initial.sink)
