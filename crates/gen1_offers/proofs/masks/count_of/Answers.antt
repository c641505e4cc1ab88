use Rattle.std.proofs.Common.{ap, arith, length, length-append, refl, ◌%◌, ◌/◌, ◌∙◌}
use Rattle.gen1_offers.specs.OfferedChoices.{choices_in, chosen_by, moves_and_pass, switches}
use Rattle.gen1_offers.proofs.MaskChoices.{offered_chosen, halves}
use Rattle.gen1_offers.proofs.masks.count_of.Goals as goal

pub returns-clause-value : goal.returns-clause-value
unfolding choices_in
returns-clause-value c =
    let low = c.count_in.ensures.count moves_and_pass refl in
    let high = c.count_in-2.ensures.count switches refl in
    let both = length-append (chosen_by (c.args.mask % 64) moves_and_pass) (chosen_by (c.args.mask / 64) switches) in
    omega (arith, low, high, both, ap length (halves c.args.mask))

pub returns-clause-offers : goal.returns-clause-offers
returns-clause-offers c s side valid is = returns-clause-value c ∙ ap length (ap choices_in is ∙ offered_chosen s side valid)
