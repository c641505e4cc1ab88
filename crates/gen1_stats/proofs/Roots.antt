-- The computed root is the one that is described, and it is the only one.
use Rattle.std.proofs.Common.{Bool, arith, false, nat_le, refl, suc, true, zero, ℕ, ◌*◌, ◌+◌, ◌<◌, ◌≤◌, ◌≡◌}
use Rattle.std.proofs.lemmas.Nat.{mul-le}
use Rattle.std.proofs.lemmas.Bool.{leb-true, leb-false}
use Rattle.gen1_stats.specs.Stats.{root_from, root, IsRoot}

-- If the square of r is below n, and that of j isn't, j is above r.
beyond : (n r j : ℕ) → r * r < n → n ≤ j * j → r + 1 ≤ j
beyond n r j less enough = grind (arith, mul-le)

-- The search finds the root if no number before its start is the root.
root_from-is : (k r n : ℕ) → r + k ≡ 255 → ((j : ℕ) → n ≤ j * j → r ≤ j) → IsRoot n (root_from k r n)
unfolding root_from
root_from-is zero r n sum least = record { capped = omega arith; reaches = λ below. absurd (omega arith); least = least }
root_from-is (suc k) r n sum least = by (nat_le n (r * r)) refl (root_from-is k (r + 1) n (omega arith))
  where
    by : (b : Bool) → nat_le n (r * r) ≡ b → (((j : ℕ) → n ≤ j * j → r + 1 ≤ j) → IsRoot n (root_from k (r + 1) n))
        → IsRoot n (elim b as (λ _. ℕ) [ true ↦ r | false ↦ root_from k (r + 1) n ])
    by true e rest = record { capped = omega arith; reaches = λ _. leb-true n (r * r) e; least = least }
    by false e rest = rest (λ j enough. beyond n r j (leb-false n (r * r) e) enough)

pub root-is : (n : ℕ) → IsRoot n (root n)
unfolding root
root-is n = root_from-is 255 0 n refl (λ j enough. omega arith)

-- Two numbers that are both the root are equal.
pub root_unique : (n a b : ℕ) → IsRoot n a → IsRoot n b → a ≡ b
root_unique n a b is_a is_b = grind (arith, is_a.least b, is_b.least a)
