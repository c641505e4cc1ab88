-- The updates so far were called, and the battle represents the state that they lead to.
use Rattle.uses.specs.TheTheorem.{begun}
use Rattle.uses.proofs.TheTheorem.{Going}
use Rattle.uses.proofs.the_theorem.the_theorem.Given as goal

abbrev pub invariant-loop-place : goal.invariant-loop-place
invariant-loop-place l = Going (begun l.beginning) l.initial.updates l.updates l.place l.battle
