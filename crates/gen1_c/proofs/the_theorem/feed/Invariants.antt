-- The spectator has followed the pieces so far.
use Rattle.std.proofs.Common.{map, take}
use Rattle.gen1_spectator.specs.Plain.{IsPlainSpectator, reading_of, view_of, Followed, joined}
use Rattle.gen1_spectator.proofs.Following.{piece_bytes}
use Rattle.gen1_c.proofs.the_theorem.feed.Given as goal

abbrev pub invariant-loop-piece : goal.invariant-loop-piece
invariant-loop-piece l =
    IsPlainSpectator l.watch
    × Followed (view_of l.initial.watch) (joined (map piece_bytes (take l.piece-index l.pieces))) (reading_of l.watch) (view_of l.watch)
