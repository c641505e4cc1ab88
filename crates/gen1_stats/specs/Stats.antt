-- The stats of a member, from its species, level, DVs and experience (docs/MECHANICS.md, "Stats").
use Rattle.std.specs.Prelude.{false, min, nat_le, suc, true, zero, ℕ, ◌%◌, ◌*◌, ◌+◌, ◌/◌, ◌<◌, ◌≤◌}

-- The first number from r on whose square is not below n, among k numbers.
unfoldable pub root_from : ℕ → ℕ → ℕ → ℕ
root_from zero r n = r
root_from (suc k) r n = elim (nat_le n (r * r)) [ true ↦ r | false ↦ root_from k (r + 1) n ]

-- The square root of n, rounded up, and at most 255.
unfoldable pub root : ℕ → ℕ
root n = root_from 255 0 n

-- What that root is, without saying how it is found: the least number whose square is not below n, and at most 255.
pub record IsRoot (n r : ℕ) : Type 0 where
  pub capped : r ≤ 255
  pub reaches : r < 255 → n ≤ r * r
  pub least : (k : ℕ) → n ≤ k * k → r ≤ k

-- The common part of HP and the other stats.
abbrev pub points : ℕ → ℕ → ℕ → ℕ → ℕ
points base dv exp level = ((base + dv) * 2 + root exp / 4) * level / 100

-- Attack, Defense, Speed or Special.
abbrev pub stat : ℕ → ℕ → ℕ → ℕ → ℕ
stat base dv exp level = min 999 (points base dv exp level + 5)

-- The maximum HP of a member.
abbrev pub hp_stat : ℕ → ℕ → ℕ → ℕ → ℕ
hp_stat base dv exp level = min 999 (points base dv exp level + level + 10)

-- The DV of HP is made from the lowest bit of each other DV.
abbrev pub hp_dv : ℕ → ℕ → ℕ → ℕ → ℕ
hp_dv attack defense speed special = 8 * (attack % 2) + 4 * (defense % 2) + 2 * (speed % 2) + special % 2

-- The PP of a move with this many PP ups. Each adds a fifth, at most 7.
abbrev pub full_pp : ℕ → ℕ → ℕ
full_pp base ups = base + ups * min 7 (base / 5)
