-- The first battles are updated; the others, and the choices for them, are as they were.
use Rattle.gen1_c.specs.Batches.{AreUpdated}
use Rattle.gen1_c.proofs.Updates.{AreLeft}
use Rattle.gen1_c.proofs.many_battles.update_each.Given as goal

abbrev pub invariant-loop-place : goal.invariant-loop-place
invariant-loop-place l =
    AreUpdated l.place l.initial.battles l.battles l.initial.updates l.updates
    × AreLeft l.place l.initial.battles l.battles × AreLeft l.place l.initial.updates l.updates
