-- The spectator has followed the pieces so far.
use Rattle.std.proofs.Common.{map, take}
use Rattle.gen1_machine.specs.View.{first_view}
use Rattle.gen1_spectator.specs.Plain.{Followed, joined}
use Rattle.gen1_spectator.proofs.Following.{piece_bytes}
use Rattle.uses.proofs.the_theorem.watch.Given as goal

abbrev pub invariant-loop-piece : goal.invariant-loop-piece
invariant-loop-piece l = Followed (first_view l.one l.two) (joined (map piece_bytes (take l.piece-index l.pieces))) l.reader l.view
