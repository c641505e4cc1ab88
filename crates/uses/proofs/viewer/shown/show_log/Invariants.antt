-- The pieces so far were shown.
use Rattle.std.proofs.Common.{take}
use Rattle.std.specs.List.{flat_map}
use Rattle.gen1_machine.specs.View.{first_view}
use Rattle.uses.specs.Examples.{HasShown}
use Rattle.uses.proofs.viewer.shown.show_log.Given as goal

abbrev pub invariant-loop-piece : goal.invariant-loop-piece
invariant-loop-piece g l =
    HasShown (flat_map (λ p. p.now) (take l.piece-index l.pieces)) l.reader (first_view l.one l.two) l.view
    (g.W.Sink.contents l.initial.out) (g.W.Sink.contents l.out)
