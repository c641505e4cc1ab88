use Rattle.std.proofs.Common.{ℕ, ◌*◌, ◌<◌, ◌≡◌, ◌≤◌}
use Rattle.std.specs.Prelude.{slice_index_or}
use Rattle.gen1_outcomes.specs.declared.successor.Successor.{Successor}
use Rattle.gen1_outcomes.specs.Listing.{AreThose}
use Rattle.gen1_outcomes.specs.Middles.{LeavesOut}
use Rattle.gen1_outcomes.specs.Weights.{weight_at}
use Rattle.gen1_outcomes.proofs.merging.scale.Given as goal

abbrev pub invariant-places : goal.invariant-places
invariant-places l =
    record {
      tally : l.tally ≡ record l.fn.tally { whole = l.fn.tally.whole * l.more; left_out = l.fn.tally.left_out * l.more };
      battles : AreThose l.fn.successors l.successors;
      left_out : LeavesOut l.fn.tally l.tally;
      scaled : (k : ℕ) → (past : Successor) → k < l.place → weight_at l.successors k past ≡ weight_at l.fn.successors k past * l.more;
      rest : (k : ℕ) → (past : Successor) → l.place ≤ k → slice_index_or l.successors k past ≡ slice_index_or l.fn.successors k past;
    }
