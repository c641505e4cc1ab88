use Rattle.std.proofs.Common.{ap, arith, filter, sym, ◌∙◌, ◌≡◌}
use Rattle.gen1_random.proofs.Drawing.{filter-more}
use Rattle.gen1_random.specs.Teams.{has, last, numbers_in, numbers_to}
use Rattle.gen1_random.proofs.teams.Pool.numbers.Goals as goal

pub loop-before-preserved : goal.loop-before-preserved
loop-before-preserved c = record {
  items = rw (c.add.ensures.items, c.loop-before.invariant.items, c.has.ensures) (sym (filter-more (has c.args.self) c.loop-before.before));
  few = omega (arith, c.add.ensures.len, c.loop-before.invariant.few);
}

pub returns : goal.returns
unfolding numbers_in
returns c =
    let all : c.loop-before.before ≡ last c.args.self = omega (arith, c.last-last.ensures.value) in
    c.loop-before.invariant.items ∙ ap (λ n. filter (has c.args.self) (numbers_to n)) all
