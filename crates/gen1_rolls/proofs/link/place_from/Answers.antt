use Rattle.std.proofs.Common.{ℕ, ◌<◌, IsFalse, arith, false, slice_index, sym, true}
use Rattle.std.proofs.lemmas.List.Elements.{All-from_get_or}
use Rattle.gen1_rolls.proofs.Rings.{one_more}
use Rattle.gen1_rolls.proofs.link.place_from.Goals as goal

pub places-init : goal.places-init
places-init g c p settles k low high = absurd (omega (arith, low, high))

pub returns-then-test-clause-stream : goal.returns-then-test-clause-stream
returns-then-test-clause-stream g c = (c.told-numbers, All-from_get_or (λ x. x < 256) c.args.numbers.now 0 (λ k _. c.fits-numbers k))

pub returns-then-test-clause-found : goal.returns-then-test-clause-found
returns-then-test-clause-found g c p settles =
    record {
      from = omega (arith, c.places.auto);
      meets = sym (settles _ true (c.fits-numbers c.places.place) c.if-test.ensures);
      none_before = c.places.invariant p settles;
    }

pub places-preserved : goal.places-preserved
places-preserved g c p settles =
    one_more (λ (k : ℕ). IsFalse (p (slice_index c.args.numbers.now k))) c.args.from c.places.place (c.places.invariant p settles)
    (λ low. sym (settles _ false (c.fits-numbers c.places.place) c.if-test.ensures))

pub returns-clause-stream : goal.returns-clause-stream
returns-clause-stream g c = (c.told-numbers, All-from_get_or (λ x. x < 256) c.args.numbers.now 0 (λ k _. c.fits-numbers k))

pub returns-clause-none : goal.returns-clause-none
returns-clause-none g c p settles k low high = c.places.invariant p settles k low (omega (arith, high, c.places-test.false))
