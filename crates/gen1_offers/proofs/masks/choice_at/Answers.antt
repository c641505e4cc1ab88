use Rattle.std.proofs.Common.{List, ap, arith, get_or, length, length-append, refl, sym, ◌%◌, ◌++◌, ◌/◌, ◌<◌, ◌∙◌, ◌≤◌}
use Rattle.std.proofs.lemmas.List.{get_or-append_right, get_or_append_left}
use Rattle.gen1_machine.specs.declared.side.Choice.{Choice}
use Rattle.gen1_machine.specs.declared.side.Choice.TheVariants as choices
use Rattle.gen1_offers.specs.OfferedChoices.{choices_in, chosen_by, moves_and_pass, switches}
use Rattle.gen1_offers.proofs.MaskChoices.{offered_chosen, halves}
use Rattle.gen1_offers.proofs.masks.choice_at.Goals as goal

pub digit_in-requires-else-place-count-clause-inside : goal.digit_in-requires-else-place-count-clause-inside
unfolding choices_in
digit_in-requires-else-place-count-clause-inside c =
    let low = chosen_by (c.args.mask % 64) moves_and_pass in
    let high = chosen_by (c.args.mask / 64) switches in
    let inside : c.args.place < length (low ++ high) = rw (← halves c.args.mask) c.requires.inside in
    let count = c.count_in-count.ensures.count moves_and_pass refl in
    omega (arith, inside, count, length-append low high, c.if-place-count.false)

pub returns-then-place-count-clause-value : goal.returns-then-place-count-clause-value
unfolding choices_in
returns-then-place-count-clause-value c =
    let low = chosen_by (c.args.mask % 64) moves_and_pass in
    let high = chosen_by (c.args.mask / 64) switches in
    let below : c.args.place < length low = rw (← c.count_in-count.ensures.count moves_and_pass refl) c.if-place-count.true in
    c.move_of_digit.ensures ∙ sym (c.digit_in.ensures.at moves_and_pass refl)
    ∙ sym (get_or_append_left low high choices.Pass c.args.place below)
    ∙ ap (λ (l : List Choice). get_or l c.args.place choices.Pass) (sym (halves c.args.mask))

pub returns-then-place-count-clause-offers : goal.returns-then-place-count-clause-offers
returns-then-place-count-clause-offers c s side valid is =
    returns-then-place-count-clause-value c
    ∙ ap (λ (l : List Choice). get_or l c.args.place choices.Pass) (ap choices_in is ∙ offered_chosen s side valid)

pub returns-else-place-count-clause-value : goal.returns-else-place-count-clause-value
unfolding choices_in
returns-else-place-count-clause-value c =
    let low = chosen_by (c.args.mask % 64) moves_and_pass in
    let high = chosen_by (c.args.mask / 64) switches in
    let count = c.count_in-count.ensures.count moves_and_pass refl in
    let above : c.count_in-count.result ≤ c.args.place = omega (arith, c.if-place-count.false) in
    c.switch_of_digit.ensures ∙ sym (c.digit_in-else-place-count.ensures.at switches refl)
    ∙ sym (get_or-append_right low high c.count_in-count.result c.args.place choices.Pass (sym count) above)
    ∙ ap (λ (l : List Choice). get_or l c.args.place choices.Pass) (sym (halves c.args.mask))

pub returns-else-place-count-clause-offers : goal.returns-else-place-count-clause-offers
returns-else-place-count-clause-offers c s side valid is =
    returns-else-place-count-clause-value c
    ∙ ap (λ (l : List Choice). get_or l c.args.place choices.Pass) (ap choices_in is ∙ offered_chosen s side valid)
