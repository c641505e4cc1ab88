use Rattle.std.proofs.Common.{◌≡◌, ℕ, IsFalse, ◌<◌}
use Rattle.gen1_rolls.specs.Streams.{passes, iterate, HoldsEveryByte}
use Rattle.gen1_rolls.specs.Steady.{draws_of}
use Rattle.gen1_rolls.proofs.rolls.search_from.Given as goal

abbrev pub invariant-draws : goal.invariant-draws
invariant-draws g l =
    record {
      drawn : l.random ≡ iterate l.counter g.R.Steady.generator.next l.fn.random;
      failed : (k : ℕ) → k < l.counter → IsFalse (passes l.test (draws_of g.R.Steady.generator l.fn.random k));
      full : 0 < l.counter → HoldsEveryByte (draws_of g.R.Steady.generator l.fn.random) g.R.Steady.generator.width;
    }
