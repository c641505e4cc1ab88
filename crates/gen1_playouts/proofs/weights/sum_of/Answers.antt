use Rattle.std.proofs.Common.{ap, arith, drop, length, ℕ, ◌+◌, ◌≡◌}
use Rattle.gen1_offers.specs.OfferedChoices.{all_choices, choices_in, chosen_by}
use Rattle.gen1_playouts.specs.Playouts.{repeated}
use Rattle.gen1_playouts.proofs.Playing.{length-first, weight-listed}
use Rattle.gen1_playouts.proofs.weights.sum_of.Goals as goal

pub loop-digit-init : goal.loop-digit-init
loop-digit-init c = (
  omega arith,
  λ weight is.
      let all = length (repeated weight (chosen_by c.args.mask all_choices)) in
      let e : 0 + all ≡ all = omega arith in e,
)

pub loop-digit-preserved : goal.loop-digit-preserved
loop-digit-preserved c = (
  omega (arith, c.loop-digit.invariant.0, c.weight_at-sum.ensures.bound),
  λ weight is.
      omega (
        arith,
        c.loop-digit.invariant.1 weight is,
        length-first weight all_choices c.loop-digit.rest c.loop-digit.digit (omega arith),
        weight-listed weight all_choices c.args.weights.now c.loop-digit.rest c.loop-digit.digit is (omega arith) c.weight_at-sum.ensures.value,
      ),
)

pub returns : goal.returns
unfolding choices_in
returns c weight is =
    let last : c.loop-digit.digit ≡ 12 = omega arith in
    let none = ap (λ (n : ℕ). length (repeated weight (chosen_by c.loop-digit.rest (drop n all_choices)))) last in
    omega (arith, c.loop-digit.invariant.1 weight is, none)
