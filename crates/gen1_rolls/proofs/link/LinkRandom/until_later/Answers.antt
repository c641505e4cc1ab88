use Rattle.std.proofs.Common.{◌≡◌, ℕ, ◌+◌, ◌<◌, ◌≤◌, List, length, ap, arith, refl, subst, sym, ◌∙◌}
use Rattle.std.specs.Prelude.{slice_index}
use Rattle.gen1_rolls.specs.Steady.{Ring, byte_of, after_draw, turned}
use Rattle.gen1_rolls.specs.Streams.{IsFirstOf}
use Rattle.gen1_rolls.proofs.Rings.{same_ring, turned-more, turned-none, fails_first, fails_more, finds_in_round, finds_none}
use Rattle.gen1_rolls.proofs.link.LinkRandom.until_later.Goals as goal

pub rounds-init : goal.rounds-init
rounds-init g c =
    record {
      start = ap (λ (ring : Ring). ring.index) c.self.view_is;
      numbers = sym (turned-none c.args.self.now.numbers);
      failed = λ p settles here. fails_first c.args.self.now.numbers p c.args.self.now.index (omega (arith, c.requires.stream.0)) here;
    }

pub returns-in-Some-clause-found : goal.returns-in-Some-clause-found
returns-in-Some-clause-found g c p settles fails =
    let old = c.args.self.now in
    let r = c.rounds.counter in
    let place = c.in-Some.place in
    let in_ring : old.index < 9 = subst (λ (ring : Ring). ring.index < 9) c.self.view_is c.self.invariant in
    let long : 9 ≤ length old.numbers = omega (arith, c.requires.stream.0) in
    let before = ap (λ (ring : Ring). ring.numbers) c.self-in-rounds.view_is ∙ c.rounds.invariant.numbers in
    let numbers = c.turn.ensures ∙ ap (turned 1) before ∙ turned-more old.numbers r long in
    let here = same_ring place place c.turn.new.numbers (turned (r + 1) old.numbers) refl numbers in
    finds_in_round old.numbers p old.index (r + 1) 0 place c.next_byte.result _ long in_ring
    (omega (arith, c.rounds-test.true)) c.in-Some.ensures.below (omega (arith, in_ring))
    (λ m low high. c.rounds.invariant.failed p settles fails m low (omega (arith, high)))
    (subst (λ (xs : List ℕ). IsFirstOf (slice_index xs) 0 p place) numbers (c.in-Some.ensures.found p settles))
    (c.next_byte.ensures.drawn ∙ ap byte_of here) (c.next_byte.ensures.left ∙ ap after_draw here)

pub rounds-preserved : goal.rounds-preserved
rounds-preserved g c =
    let old = c.args.self.now in
    let r = c.rounds.counter in
    let long : 9 ≤ length old.numbers = omega (arith, c.requires.stream.0) in
    let before = ap (λ (ring : Ring). ring.numbers) c.self-in-rounds.view_is ∙ c.rounds.invariant.numbers in
    let numbers = c.turn.ensures ∙ ap (turned 1) before ∙ turned-more old.numbers r long in
    record {
      start = c.rounds.invariant.start;
      numbers = numbers;
      failed = λ p settles fails m low high.
          fails_more old.numbers p old.index (r + 1) 0 9 long (omega arith)
          (λ j from below. c.rounds.invariant.failed p settles fails j from (omega (arith, below)))
          (λ k from below. ap (λ (xs : List ℕ). p (slice_index xs k)) (sym numbers) ∙ c.in-None.ensures.none p settles k from below)
          m low (omega (arith, high));
    }

pub returns-clause-none : goal.returns-clause-none
returns-clause-none g c p settles fails =
    let old = c.args.self.now in
    let r = c.rounds.counter in
    let in_ring : old.index < 9 = subst (λ (ring : Ring). ring.index < 9) c.self.view_is c.self.invariant in
    let long : 9 ≤ length old.numbers = omega (arith, c.requires.stream.0) in
    let all : r + 1 ≡ 256 = omega (arith, c.rounds-test.false, c.rounds.auto.counter-end) in
    let before = ap (λ (ring : Ring). ring.numbers) c.self-2.view_is ∙ c.rounds.invariant.numbers in
    let numbers = c.turn-2.ensures ∙ ap (turned 1) before ∙ turned-more old.numbers r long in
    finds_none old.numbers p old.index (r + 1) 0 _ c.requires.stream in_ring all
    (λ m low high. c.rounds.invariant.failed p settles fails m low (omega (arith, high)))
    (same_ring _ _ _ _ c.rounds.invariant.start numbers)
