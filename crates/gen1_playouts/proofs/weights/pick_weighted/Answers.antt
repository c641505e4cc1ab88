use Rattle.std.proofs.Common.{List, ap, arith, get_or, length, subst, sym, ◌<◌, ◌%◌, ◌/◌, ◌^◌, ◌≡◌, ◌≢◌, ◌∙◌}
use Rattle.gen1_machine.specs.declared.side.Choice.{Choice}
use Rattle.gen1_machine.specs.declared.side.Choice.TheVariants.{Pass}
use Rattle.gen1_offers.specs.OfferedChoices.{choices_in}
use Rattle.gen1_playouts.specs.Playouts.{IsDrawn, choice_by, next_state, repeated}
use Rattle.gen1_playouts.proofs.Playing.{weighted-none, weighted-some}
use Rattle.gen1_playouts.proofs.weights.pick_weighted.Goals as goal

pub returns-then-sum-eq0 : goal.returns-then-sum-eq0
returns-then-sum-eq0 c weight is some =
    let none : length (repeated weight (choices_in c.args.mask)) ≡ 0 = sym (c.sum_of-sum.ensures weight is) ∙ c.if-sum-eq0.true in
    subst (λ (l : List Choice). IsDrawn c.args.random.now.state l c.pick.result c.pick.new.random.state)
    (sym (weighted-none weight (choices_in c.args.mask) none)) (c.pick.ensures.drawn some)

pub returns : goal.returns
returns c weight is some =
    let copies = repeated weight (choices_in c.args.mask) in
    let long : c.sum_of-sum.result ≡ length copies = c.sum_of-sum.ensures weight is in
    let several : length copies ≢ 0 = λ e. c.if-sum-eq0.false (long ∙ e) in
    let inside : c.below-index.result < length copies = omega (arith, c.below-index.ensures.bound, long) in
    let index : c.below-index.result ≡ next_state c.args.random.now.state / 2 ^ 32 % length copies =
    c.below-index.ensures.value ∙ ap (λ n. next_state c.args.random.now.state / 2 ^ 32 % n) long in (
      c.choice_by_weight.ensures weight is inside
          ∙ ap (λ n. get_or copies n Pass) index
          ∙ sym (ap (choice_by (next_state c.args.random.now.state)) (weighted-some weight (choices_in c.args.mask) several)),
      c.below-index.ensures.state,
    )
