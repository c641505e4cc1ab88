use Rattle.std.proofs.Common.{◌≡◌, ◌<◌, ap, sym, ◌∙◌, arith}
use borrow.Author.Count.{below_more}
use Rattle.gen1_rolls.specs.Streams.{passes, iterate}
use Rattle.gen1_rolls.specs.Steady.{draws_of}
use Rattle.gen1_rolls.proofs.Standing.{draws_of-full, iterate-more, finds_as, finds_none, none_meets, full_from, stands_at_itself}
use Rattle.gen1_rolls.proofs.rolls.search_from.Goals as goal

pub returns-then-passes-clause-found : goal.returns-then-passes-clause-found
returns-then-passes-clause-found g c =
    let drawn = c.next_byte-byte.ensures.drawn ∙ ap g.R.Steady.generator.byte c.draws.invariant.drawn in
    finds_as c.args._look (omega arith) (record {
      passed = c.draws.counter;
      first =
          record {
            from = omega arith;
            meets = ap (passes c.args.test) (sym drawn) ∙ sym c.passes.ensures ∙ c.if-passes.true;
            none_before = λ k _ lt. c.draws.invariant.failed k lt;
          };
      within = omega (arith, c.SPAN-end.ensures, c.draws-test.true, g.met.R.Steady.spans);
      is = drawn;
      left = c.next_byte-byte.ensures.left ∙ ap g.R.Steady.generator.next c.draws.invariant.drawn ∙ sym (iterate-more g.R.Steady.generator.next c.draws.counter c.args.random.now);
    })

pub draws-preserved : goal.draws-preserved
draws-preserved g c =
    let drawn = c.next_byte-byte.ensures.drawn ∙ ap g.R.Steady.generator.byte c.draws.invariant.drawn in
    record {
      drawn = c.next_byte-byte.ensures.left ∙ ap g.R.Steady.generator.next c.draws.invariant.drawn ∙ sym (iterate-more g.R.Steady.generator.next c.draws.counter c.args.random.now);
      failed = below_more _ _ c.draws.invariant.failed (ap (passes c.args.test) (sym drawn) ∙ sym c.passes.ensures ∙ c.if-passes.false);
      full = λ _.
          full_from g.R.Steady.generator c.args.random.now c.draws.random g.R.Steady.generator.width c.draws.counter c.draws.invariant.drawn
          c.draws.invariant.full (draws_of-full (stands_at_itself g.R.Steady.generator c.draws.random) c.next_byte-byte.ensures.stream);
    }

pub returns-clause-none : goal.returns-clause-none
returns-clause-none g c =
    let all : c.draws.counter ≡ g.R.Steady.generator.width = omega (arith, c.SPAN-end.ensures, c.draws-test.false, c.draws.auto.counter-end, g.met.R.Steady.spans) in
    let some : 0 < c.draws.counter = omega (arith, all, g.met.R.Steady.positive, g.met.R.Steady.spans) in
    finds_none (record {
      none_meets =
          none_meets (draws_of g.R.Steady.generator c.args.random.now) (passes c.args.test) g.R.Steady.generator.width c.draws.counter (omega (arith, all))
          (c.draws.invariant.full some) c.draws.invariant.failed;
      none_drawn = λ k lt. c.draws.invariant.failed k (omega (arith, all, lt));
      left = c.draws.invariant.drawn ∙ ap (λ k. iterate k g.R.Steady.generator.next c.args.random.now) all;
    })
