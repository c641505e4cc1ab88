use Rattle.std.proofs.Common.{arith, refl}
use Rattle.gen1_playouts.proofs.weights.pick.Goals as goal

pub returns-then-count-eq0-clause-drawn : goal.returns-then-count-eq0-clause-drawn
returns-then-count-eq0-clause-drawn c some = absurd (omega (arith, some, c.if-count-eq0.true, c.count_of-count.ensures.value))

pub choice_at-requires-clause-inside : goal.choice_at-requires-clause-inside
choice_at-requires-clause-inside c = omega (arith, c.below-place.ensures.bound, c.count_of-count.ensures.value)

pub returns-clause-drawn : goal.returns-clause-drawn
returns-clause-drawn c some = (rw (c.choice_at.ensures.value, c.below-place.ensures.value, c.count_of-count.ensures.value) refl, c.below-place.ensures.state)

pub returns-clause-none : goal.returns-clause-none
returns-clause-none c none = absurd (omega (arith, none, c.if-count-eq0.false, c.count_of-count.ensures.value))
