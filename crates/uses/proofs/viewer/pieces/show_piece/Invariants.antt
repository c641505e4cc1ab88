-- The events still to be shown are those of the remaining bytes.
use Rattle.std.proofs.Common.{length, ◌+◌}
use Rattle.gen1_spectator.proofs.Following.{waits}
use Rattle.uses.proofs.Examples.{Remains}
use Rattle.uses.proofs.viewer.pieces.show_piece.Given as goal

abbrev pub invariant-events : goal.invariant-events
invariant-events g l =
    Remains l.rest l.reader l.view (g.W.Sink.contents l.out) l.initial.bytes l.initial.reader l.initial.view (g.W.Sink.contents l.initial.out)

abbrev pub decreases-events : goal.decreases-events
decreases-events g l = length l.rest + waits l.reader
