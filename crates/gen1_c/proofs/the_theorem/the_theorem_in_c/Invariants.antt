-- The updates so far were called, and the battle represents the state that they lead to.
use Rattle.gen1_c.specs.TheTheorem.{begun}
use Rattle.gen1_c.proofs.TheTheorem.{Going}
use Rattle.gen1_c.proofs.the_theorem.the_theorem_in_c.Given as goal

abbrev pub invariant-loop-place : goal.invariant-loop-place
invariant-loop-place l = Going (begun l.beginning) l.initial.updates l.updates l.place l.battle
