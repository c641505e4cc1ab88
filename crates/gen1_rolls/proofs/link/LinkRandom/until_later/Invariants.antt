use Rattle.std.proofs.Common.{◌≡◌, ◌+◌, ◌*◌, ℕ, Bool}
use Rattle.gen1_rolls.specs.Draws.{Settles}
use Rattle.gen1_rolls.specs.Steady.{FailsFrom, turned}
use Rattle.gen1_rolls.proofs.Rings.{Fails}
use Rattle.gen1_rolls.proofs.link.LinkRandom.until_later.Given as goal

abbrev pub invariant-rounds : goal.invariant-rounds
invariant-rounds g l =
    record {
      start : l.start ≡ l.fn.self.index;
      numbers : l.self.numbers ≡ turned l.counter l.fn.self.numbers;
      failed : (p : ℕ → Bool) → Settles (goal.F-post g l.test) p → FailsFrom l.fn.self.index l.fn.self.numbers p
          → Fails l.fn.self.numbers p l.fn.self.index (9 * (l.counter + 1));
    }
