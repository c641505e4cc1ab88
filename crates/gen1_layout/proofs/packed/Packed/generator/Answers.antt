use Rattle.gen1_layout.proofs.Words.{Bool, None, Some, ap, arith, nat_lt, nat_tests, packed_of, true, ℕ, ◌∙◌}
use Rattle.std.proofs.Common.{cond, ◌%◌, ◌<◌, ◌≡◌}
use Rattle.std.specs.Prelude.{if◌then◌else◌}
use Rattle.gen1_layout.proofs.WaysBack.{numbers_are}
use Rattle.gen1_layout.proofs.packed.Packed.generator.Goals as goal

pub returns-clause-packs : goal.returns-clause-packs
returns-clause-packs c g f h =
    let low : g.drawn % 9 < 9 = omega arith in
    let numbers = numbers_are g.seed g.drawn h.seed.0 in
    c.from_parts.ensures.value ∙ rw (c.header-header.ensures.packs g f h, numbers) (below_nine (g.drawn % 9) _ low)
  where
    below_nine : {A : Type 0} (i : ℕ) (a : A) → i < 9 → (if nat_lt i 9 then Some a else None) ≡ Some a
    below_nine i a h = ap (λ (b : Bool). cond b (Some a) None) (test i h)
      where
        test : (i : ℕ) → i < 9 → nat_lt i 9 ≡ true
        test i h = grind (arith, nat_tests)

pub returns-clause-stands : goal.returns-clause-stands
returns-clause-stands c g f h = returns-clause-packs c g f (packed_of h)
