use Rattle.std.proofs.Common.{List, [], arith, drop, length, refl, subst, sym, ◌++◌, ◌/◌, ◌∙◌, ◌≡◌, ◌≤◌}
use Rattle.gen1_machine.specs.declared.side.Choice.{Choice}
use Rattle.gen1_offers.specs.OfferedChoices.{all_choices, choices_in, chosen_by}
use Rattle.gen1_c.specs.Battle.{Offers}
use Rattle.gen1_c.proofs.Writing.{four, four_first, four_written, offers_of, rest_four}
use Rattle.gen1_c.proofs.choices.put_choices.Goals as goal

pub returns-then-mask-eq60-clause-offers : goal.returns-then-mask-eq60-clause-offers
unfolding choices_in
returns-then-mask-eq60-clause-offers c few =
    let nine : length c.args.choices.now ≡ 9 = omega arith in
    let list : chosen_by c.args.mask all_choices ≡ four ++ chosen_by (c.args.mask / 64) (drop 6 all_choices) = four_first c.args.mask c.if-mask-eq60.true in
    let short = subst (λ (l : List Choice). length l ≤ 9) list few in
    subst (λ (l : List Choice). Offers l c.args.choices.now c.put_digits.new.choices c.put_digits.result) (sym list)
    (offers_of (four ++ chosen_by (c.args.mask / 64) (drop 6 all_choices)) c.args.choices.now c.put_digits.new.choices c.put_digits.result
    (c.put_digits.ensures.written c.args.choices.now four (four_written c.args.choices.now nine) nine short))

pub returns-clause-offers : goal.returns-clause-offers
unfolding choices_in
returns-clause-offers c few =
    let nine : length c.args.choices.now ≡ 9 = omega arith in
    offers_of (chosen_by c.args.mask all_choices) c.args.choices.now c.put_digits-2.new.choices c.put_digits-2.result
    (c.put_digits-2.ensures.written c.args.choices.now [] (refl, refl) nine few)

pub returns-then-mask-eq60-clause-rest : goal.returns-then-mask-eq60-clause-rest
returns-then-mask-eq60-clause-rest c = c.put_digits.ensures.rest ∙ rest_four c.args.choices.now c.put_digits.result c.put_digits.ensures.grows
