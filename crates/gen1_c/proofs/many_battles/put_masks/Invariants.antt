-- The first masks are those of the first battles.
use Rattle.std.proofs.Common.{take}
use Rattle.gen1_c.specs.Batches.{AreMasks}
use Rattle.gen1_c.proofs.many_battles.put_masks.Given as goal

abbrev pub invariant-loop-place : goal.invariant-loop-place
invariant-loop-place l = AreMasks l.side (take l.place l.battles) (take l.place l.masks)
