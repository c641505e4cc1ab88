use Rattle.std.proofs.Common.{length, ◌≡◌, ◌≤◌}
use Rattle.gen1_machine.specs.State.{State}
use Rattle.gen1_outcomes.specs.Complete.{Extends, IsExact, Offers}
use Rattle.gen1_outcomes.specs.Listing.{StillFollow}
use Rattle.gen1_outcomes.specs.Middles.{IsIndexed, LeavesOut, StayIndexed}
use Rattle.gen1_outcomes.specs.Weights.{CountsEach, StayProbable, TakesEach, IsTreeFrom}
use Rattle.gen1_outcomes.proofs.Complete.{IsGoingFrom}
use Rattle.gen1_outcomes.proofs.Weights.{IsWeighedFrom, by_bytes}
use Rattle.gen1_outcomes.proofs.outcomes.finish_in_parts.Given as goal

abbrev pub invariant-walk : goal.invariant-walk
invariant-walk l =
    record {
      every : IsExact l.ways.options → l.fn.tally.least ≡ 0 → IsGoingFrom l.ways l.middle l.nodes l.tally.count l.successors;
      parts : IsExact l.ways.options → l.fn.tally.least ≡ 0 → IsIndexed l.fn.table l.fn.tally.count l.fn.successors → (s : State) → Offers l.ways s
          → IsWeighedFrom by_bytes IsTreeFrom l.ways l.middle s l.fn.tally l.fn.successors l.nodes l.tally l.successors;
      since : l.nodes.before ≡ l.middle.chance;
      keeps : Extends l.fn.tally.count l.fn.successors l.tally.count l.successors;
      within : l.tally.count ≤ length l.successors;
      options : l.nodes.options ≡ l.ways.options;
      others : l.others.options ≡ l.ways.options;
      left_out : LeavesOut l.fn.tally l.tally;
      probable : StayProbable l.fn.tally l.fn.successors l.tally l.successors;
      ways : CountsEach l.middle.ways l.fn.tally l.tally;
      takes : TakesEach l.fn.tally l.tally l.fn.table l.table;
      indexed : StayIndexed l.fn.tally l.fn.successors l.fn.table l.tally l.successors l.table;
      follow : StillFollow l.ways l.fn.tally.count l.fn.successors l.tally.count l.successors;
    }
