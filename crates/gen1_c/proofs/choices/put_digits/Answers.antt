use Rattle.std.proofs.Common.{arith, refl, ◌≡◌}
use Rattle.gen1_c.proofs.Writing.{rest_more, so_far-all, so_far-more, so_far-none}
use Rattle.gen1_c.proofs.choices.put_digits.Goals as goal

pub loop-digit-init : goal.loop-digit-init
loop-digit-init c = (c.requires.before, λ base done is nine few. so_far-none base done c.args.mask c.args.from c.args.choices.now c.args.before is, omega arith, refl)

pub loop-digit-preserved : goal.loop-digit-preserved
loop-digit-preserved c = (
  c.put_if-count.ensures.few,
  λ base done is nine few.
      so_far-more base done c.args.mask c.args.from c.loop-digit.rest c.loop-digit.digit c.loop-digit.choices c.put_if-count.new.choices c.loop-digit.count c.put_if-count.result
      (c.loop-digit.invariant.1 base done is nine few) (omega arith) nine few c.put_if-count.ensures.written,
  omega (arith, c.loop-digit.invariant.2, c.put_if-count.ensures.grows),
  rest_more c.args.choices.now c.loop-digit.choices c.put_if-count.new.choices c.loop-digit.count c.put_if-count.result c.put_if-count.ensures.grows
      c.loop-digit.invariant.3 c.put_if-count.ensures.rest,
)

pub returns-clause-written : goal.returns-clause-written
returns-clause-written c base done is nine few =
    let last : c.loop-digit.digit ≡ 12 = omega arith in
    so_far-all base done c.args.mask c.args.from c.loop-digit.rest c.loop-digit.digit c.loop-digit.choices c.loop-digit.count
    (c.loop-digit.invariant.1 base done is nine few) last
