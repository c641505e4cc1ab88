use Rattle.std.proofs.Common.{length, ◌≡◌, ◌≤◌}
use Rattle.gen1_outcomes.specs.Complete.{IsExact}
use Rattle.gen1_outcomes.specs.Listing.{StillFollow}
use Rattle.gen1_outcomes.specs.Middles.{AreReached, IsIndexed, LeavesOut, StayIndexed}
use Rattle.gen1_outcomes.specs.Weights.{StayProbable, TakesEach, AreEqual, of_chance, unit}
use Rattle.gen1_outcomes.proofs.Complete.{IsGoingIn}
use Rattle.gen1_outcomes.proofs.Stages.{AreGoing}
use Rattle.gen1_outcomes.proofs.outcomes.add_in_parts.Given as goal

abbrev pub invariant-walk : goal.invariant-walk
invariant-walk l =
    record {
      reached : AreReached l.ways l.middles;
      within : l.tally.count ≤ length l.successors;
      options : l.nodes.options ≡ l.ways.options;
      every : IsExact l.ways.options → l.fn.tally.least ≡ 0 → IsGoingIn l.ways l.nodes l.middles l.tally.count l.successors;
      parts : IsExact l.ways.options → l.fn.tally.least ≡ 0 → IsIndexed l.fn.table l.fn.tally.count l.fn.successors
          → AreGoing l.ways l.nodes l.middles l.fn.tally l.fn.successors l.tally l.successors;
      before : AreEqual (of_chance l.nodes.before) unit;
      left_out : LeavesOut l.fn.tally l.tally;
      probable : StayProbable l.fn.tally l.fn.successors l.tally l.successors;
      takes : TakesEach l.fn.tally l.tally l.fn.table l.table;
      indexed : StayIndexed l.fn.tally l.fn.successors l.fn.table l.tally l.successors l.table;
      follow : StillFollow l.ways l.fn.tally.count l.fn.successors l.tally.count l.successors;
    }
