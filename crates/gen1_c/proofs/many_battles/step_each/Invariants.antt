-- The first battles are stepped, and counted if they are over; the others and their generators are as they were.
use Rattle.std.proofs.Common.{take, ◌≡◌, ◌≤◌}
use Rattle.gen1_c.specs.Batches.{AreListed, AreStepped, over_in}
use Rattle.gen1_c.proofs.Updates.{AreLeft}
use Rattle.gen1_c.proofs.many_battles.step_each.Given as goal

abbrev pub invariant-loop-place : goal.invariant-loop-place
invariant-loop-place l =
    AreStepped l.place l.starts (record { battles = l.initial.battles; generators = l.initial.generators })
    (record { battles = l.battles; generators = l.generators }) l.updates
    × AreLeft l.place l.initial.battles l.battles × AreLeft l.place l.initial.generators l.generators
    × (l.over ≡ over_in (take l.place l.updates)) × (l.over ≤ l.place)
    × AreListed l.place l.updates
