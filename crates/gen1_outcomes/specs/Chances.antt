-- Sums of probabilities, and which are below the least one.
use Rattle.std.specs.Prelude.{ℕ, ◌+◌, ◌*◌, ◌^◌, ◌<◌, ◌≡◌, ◌≤◌, ◌⊎◌}
use Rattle.gen1_outcomes.specs.declared.nodes.Chance.{Chance}

-- The sum of two probabilities.
abbrev pub IsSum : Chance → Chance → Chance → Type 0
IsSum a b c = c.num * (a.whole * b.whole) ≡ c.whole * (a.num * b.whole + b.num * a.whole)

-- 128 bits do not hold their sum over the product of their denominators.
abbrev pub IsTooFine : Chance → Chance → Type 0
IsTooFine a b = (2 ^ 128 ≤ a.whole * b.whole) ⊎ (2 ^ 128 ≤ a.num * b.whole + b.num * a.whole)

-- A probability is below least / 2^32, or it is no less.
abbrev pub IsBelow : ℕ → Chance → Type 0
IsBelow least c = c.num * 4294967296 < least * c.whole

abbrev pub IsAtLeast : ℕ → Chance → Type 0
IsAtLeast least c = least * c.whole ≤ c.num * 4294967296
