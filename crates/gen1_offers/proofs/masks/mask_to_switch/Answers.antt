use Rattle.std.proofs.Common.{Bool, List, [], ap, arith, false, sym, ℕ, ◌*◌, ◌++◌, ◌+◌, ◌≡◌, ◌∙◌, ◌∷◌}
use Rattle.gen1_machine.specs.Layout.{number_of_bits}
use Rattle.gen1_offers.specs.OfferedChoices.{living_of, mask_of, passing}
use Rattle.gen1_offers.proofs.MaskDigits.{six_below, switch_digits}
use Rattle.gen1_offers.proofs.Benches.{out_is}
use Rattle.gen1_offers.proofs.masks.mask_to_switch.Goals as goal

pub returns-clause-stands : goal.returns-clause-stands
unfolding mask_of
returns-clause-stands c g f h known =
    let s = c.args.side in
    let bench = c.bench_or.ensures.stands g f h known in
    let low : List Bool = false ∷ false ∷ false ∷ false ∷ false ∷ false ∷ [] in
    let high : List Bool = passing 1 c.bench_or.result.out (living_of s f) in
    let none : 64 * number_of_bits high ≡ number_of_bits low + 64 * number_of_bits high = omega arith in
    ap (λ (n : ℕ). 64 * n) bench.digits ∙ none ∙ six_below false false false false false false high
    ∙ ap (λ (place : ℕ). number_of_bits (low ++ passing 1 place (living_of s f))) (bench.out ∙ out_is g f s h)
    ∙ sym (ap number_of_bits (switch_digits s f))
