use Rattle.std.proofs.Common.{ap, arith, refl, subst, sym, ℕ, ◌%◌, ◌/◌, ◌^◌, ◌∙◌, ◌≡◌, ◌≤◌}
use Rattle.gen1_offers.specs.OfferedChoices.{moves_and_pass}
use Rattle.gen1_offers.proofs.MaskChoices.{chosen-most, counts, row_of}
use Rattle.gen1_offers.proofs.masks.count_in.Goals as goal

pub returns-clause-count : goal.returns-clause-count
returns-clause-count c cs six =
    let small : c.args.six % 64 ≡ c.args.six = omega (arith, c.requires) in
    ap (λ (n : ℕ). row_of n / 2 ^ 28) small ∙ counts cs c.args.six six c.requires

pub returns-clause-bound : goal.returns-clause-bound
returns-clause-bound c =
    let small : c.args.six % 64 ≡ c.args.six = omega (arith, c.requires) in
    subst (λ (n : ℕ). n ≤ 6) (sym (ap (λ (n : ℕ). row_of n / 2 ^ 28) small ∙ counts moves_and_pass c.args.six refl c.requires))
    (chosen-most c.args.six moves_and_pass)
