use Rattle.std.proofs.Common.{arith, length, subst, sym, take, ℕ, ◌<◌, ◌∙◌, ◌≡◌}
use Rattle.std.proofs.lemmas.List.{length-set, take_all}
use Rattle.gen1_playouts.specs.Playouts.{numbers_from}
use Rattle.gen1_playouts.proofs.Playing.{draws-more}
use Rattle.gen1_playouts.proofs.weights.ChoiceGenerator.ten_numbers.Goals as goal

pub loop-place-preserved : goal.loop-place-preserved
loop-place-preserved c =
    let so_far = c.loop-place.invariant in
    let numbers = c.loop-place.numbers in
    let inside : c.loop-place.place < length numbers = omega (arith, so_far.0) in
    let more = draws-more c.args.self.now.state c.loop-place.place numbers inside so_far.1 so_far.2 c.below.ensures.value c.below.ensures.state in
    (length-set numbers c.loop-place.place c.below.result ∙ so_far.0, more.0, more.1)

pub returns-clause-drawn : goal.returns-clause-drawn
returns-clause-drawn c =
    let so_far = c.loop-place.invariant in
    let all : c.loop-place.place ≡ 10 = omega arith in
    sym (take_all 10 c.loop-place.numbers (omega (arith, so_far.0)))
    ∙ subst (λ (n : ℕ). take n c.loop-place.numbers ≡ (numbers_from c.args.self.now.state n).drawn) all so_far.1

pub returns-clause-state : goal.returns-clause-state
returns-clause-state c =
    let all : c.loop-place.place ≡ 10 = omega arith in
    subst (λ (n : ℕ). c.loop-place.self.state ≡ (numbers_from c.args.self.now.state n).random) all c.loop-place.invariant.2
