use Rattle.std.proofs.Common.{length, ◌≡◌, ◌≤◌}
use Rattle.gen1_outcomes.specs.Complete.{Extends, IsExact}
use Rattle.gen1_outcomes.specs.Listing.{StillFollow}
use Rattle.gen1_outcomes.specs.Middles.{IsIndexed, LeavesOut, StayIndexed}
use Rattle.gen1_outcomes.specs.Weights.{StayProbable, TakesEach}
use Rattle.gen1_outcomes.proofs.Complete.{ListsFromEach}
use Rattle.gen1_outcomes.proofs.Stages.{AddsFirst}
use Rattle.gen1_outcomes.proofs.outcomes.go_on_from.Given as goal

abbrev pub invariant-places : goal.invariant-places
invariant-places l =
    record {
      within : l.tally.count ≤ length l.successors;
      every : IsExact l.ways.options → l.fn.tally.least ≡ 0 → ListsFromEach l.ways l.place l.middles.list l.tally.count l.successors;
      parts : IsExact l.ways.options → l.fn.tally.least ≡ 0 → IsIndexed l.fn.table l.fn.tally.count l.fn.successors
          → AddsFirst l.ways l.middles l.place l.fn.tally l.fn.successors l.tally l.successors;
      keeps : Extends l.fn.tally.count l.fn.successors l.tally.count l.successors;
      left_out : LeavesOut l.fn.tally l.tally;
      probable : StayProbable l.fn.tally l.fn.successors l.tally l.successors;
      takes : TakesEach l.fn.tally l.tally l.fn.table l.table;
      indexed : StayIndexed l.fn.tally l.fn.successors l.fn.table l.tally l.successors l.table;
      follow : StillFollow l.ways l.fn.tally.count l.fn.successors l.tally.count l.successors;
    }
