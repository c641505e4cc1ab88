use Rattle.std.proofs.Common.{ap, arith, drop, length, refl, sym, ℕ, ◌∙◌, ◌≡◌}
use Rattle.gen1_offers.specs.OfferedChoices.{all_choices, choices_in, chosen_by}
use Rattle.gen1_playouts.specs.Playouts.{repeated}
use Rattle.gen1_playouts.proofs.Playing.{left-here, left-more, place-here, place-more, weight-listed}
use Rattle.gen1_playouts.proofs.weights.choice_by_weight.Goals as goal

pub loop-digit-init : goal.loop-digit-init
loop-digit-init c = (omega arith, refl, λ weight is inside. record { inside = inside; same = refl })

pub choice_at-requires-clause-inside : goal.choice_at-requires-clause-inside
unfolding choices_in
choice_at-requires-clause-inside c =
    (place-here (chosen_by c.args.mask all_choices) c.loop-digit.rest c.loop-digit.digit c.loop-digit.place c.loop-digit.left c.weight_at-weight.result _
    (omega arith) c.loop-digit.invariant.1 c.weight_at-weight.ensures.value c.if-left-weight.true).0

pub returns-then-left-weight : goal.returns-then-left-weight
unfolding choices_in
returns-then-left-weight c weight is inside =
    let so_far = c.loop-digit.invariant in
    let here = place-here (chosen_by c.args.mask all_choices) c.loop-digit.rest c.loop-digit.digit c.loop-digit.place c.loop-digit.left c.weight_at-weight.result _
    (omega arith) so_far.1 c.weight_at-weight.ensures.value c.if-left-weight.true in
    let at = weight-listed weight all_choices c.args.weights.now c.loop-digit.rest c.loop-digit.digit is (omega arith) c.weight_at-weight.ensures.value in
    c.choice_at.ensures.value ∙ here.1 ∙ sym (left-here c.weight_at-weight.result (so_far.2 weight is inside) (omega arith) at c.if-left-weight.true)

pub loop-digit-preserved : goal.loop-digit-preserved
loop-digit-preserved c =
    let so_far = c.loop-digit.invariant in (
      omega (arith, so_far.0),
      place-more (chosen_by c.args.mask all_choices) c.loop-digit.rest c.loop-digit.digit c.loop-digit.place (omega arith) so_far.1,
      λ weight is inside.
          left-more c.weight_at-weight.result (so_far.2 weight is inside) (omega arith)
          (weight-listed weight all_choices c.args.weights.now c.loop-digit.rest c.loop-digit.digit is (omega arith) c.weight_at-weight.ensures.value)
          (omega (arith, c.if-left-weight.false)),
    )

pub returns : goal.returns
unfolding choices_in
returns c weight is inside =
    let last : c.loop-digit.digit ≡ 12 = omega arith in
    let none = ap (λ (n : ℕ). length (repeated weight (chosen_by c.loop-digit.rest (drop n all_choices)))) last in
    absurd (omega (arith, (c.loop-digit.invariant.2 weight is inside).inside, none))
