use Rattle.std.proofs.Common.{arith, ℕ, ◌+◌, ◌<◌, ◌≢◌}
use Rattle.std.proofs.lemmas.Nat.Gcd.{IsGcd-from_mod, IsGcd-from_zero}
use Rattle.gen1_outcomes.proofs.merging.common_divisor.Goals as goal

some : (a b : ℕ) → a ≢ 0 → 0 < a + b
some a b ne = omega (arith, ne)

pub loop-right-preserved : goal.loop-right-preserved
loop-right-preserved c =
    record {
      positive = some c.loop-right.right _ c.loop-right-test.true;
      greatest = λ g h. c.loop-right.invariant.greatest g (IsGcd-from_mod c.loop-right.left c.loop-right.right g h);
    }

pub returns-clause-greatest : goal.returns-clause-greatest
returns-clause-greatest c = c.loop-right.invariant.greatest c.loop-right.left (IsGcd-from_zero c.loop-right.left c.loop-right.right c.loop-right-test.false)
