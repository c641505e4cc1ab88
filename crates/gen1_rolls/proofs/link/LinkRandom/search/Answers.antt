use Rattle.std.proofs.Common.{ℕ, ◌<◌, ◌≤◌, List, length, ap, arith, refl, subst, sym, ◌∙◌}
use Rattle.std.specs.Prelude.{slice_index}
use Rattle.gen1_rolls.specs.Steady.{FailsFrom, Ring, byte_of, after_draw, link, turned}
use Rattle.gen1_rolls.specs.Streams.{IsFirstOf}
use Rattle.gen1_rolls.proofs.Rings.{same_ring, turned-none, finds_in_round}
use Rattle.gen1_rolls.proofs.Standing.{finds_as, none_finds, some_finds}
use Rattle.gen1_rolls.proofs.link.LinkRandom.search.Goals as goal

pub returns-in-Some-clause-found : goal.returns-in-Some-clause-found
returns-in-Some-clause-found g c p settles =
    finds_as c.args._look (omega arith) (
    let old = c.args.self.now in
    let place = c.in-Some.place in
    let in_ring : old.index < 9 = subst (λ (ring : Ring). ring.index < 9) c.self.view_is c.self.invariant in
    let long : 9 ≤ length old.numbers = subst (λ (ring : Ring). 9 ≤ length ring.numbers) c.self.view_is (omega (arith, c.self.told)) in
    let index = ap (λ (ring : Ring). ring.index) c.self.view_is in
    let numbers = ap (λ (ring : Ring). ring.numbers) c.self.view_is ∙ sym (turned-none old.numbers) in
    let here = same_ring place place c.self.inside.numbers (turned 0 old.numbers) refl numbers in
    finds_in_round old.numbers p old.index 0 c.self.inside.index place c.next_byte.result _ long in_ring
    (omega arith) c.in-Some.ensures.below (omega (arith, index))
    (λ m low high. absurd (omega (arith, index, low, high)))
    (subst (λ (xs : List ℕ). IsFirstOf (slice_index xs) c.self.inside.index p place) numbers (c.in-Some.ensures.found p settles))
    (c.next_byte.ensures.drawn ∙ ap byte_of here) (c.next_byte.ensures.left ∙ ap after_draw here))

pub returns-in-None-clause-found : goal.returns-in-None-clause-found
returns-in-None-clause-found g c p settles =
    some_finds link p c.args.self.now _ c.args._look c.until_later.result c.until_later.ensures.fits (c.until_later.ensures.found p settles
    (subst (λ (ring : Ring). FailsFrom ring.index ring.numbers p) c.self.view_is (c.in-None.ensures.none p settles)))

pub returns-in-None-clause-none : goal.returns-in-None-clause-none
returns-in-None-clause-none g c p settles =
    none_finds link p c.args.self.now _ c.until_later.result (c.until_later.ensures.none p settles
    (subst (λ (ring : Ring). FailsFrom ring.index ring.numbers p) c.self.view_is (c.in-None.ensures.none p settles)))
