use Rattle.std.proofs.Common.{arith, refl, subst, ℕ, ◌≡◌, ◌∙◌}
use Rattle.gen1_outcomes.proofs.Complete.{each_more, each_none, extends_none, extends_then, listed_all}
use Rattle.gen1_outcomes.proofs.Lists.{still_then}
use Rattle.gen1_outcomes.proofs.Shares.{leaves_then, stay_then}
use Rattle.gen1_outcomes.proofs.Stages.{AddsFirst, adds_all, adds_more, adds_none}
use Rattle.gen1_outcomes.proofs.outcomes.go_on_from.Goals as goal

pub places-init : goal.places-init
places-init c =
    record { within = omega arith; every = λ exact least. each_none _ _ _ _; parts = λ exact least are. adds_none _ _ _ _; keeps = extends_none _ _; left_out = record { least = refl; none = λ l z. z }; probable = λ are. are; takes = refl; indexed = λ are. are; follow = λ s h o each. each }

pub places-preserved : goal.places-preserved
places-preserved c =
    record {
      within = omega arith;
      every = λ exact least.
          each_more c.args.ways.now c.args.middles.now.list c.places.place c.places.tally.count c.finish.new.tally.count c.index-middles-place.result c.places.successors
          c.finish.new.successors (omega arith) (c.places.invariant.every exact least) c.in_ok-finish.ensures.keeps
          (λ s of. c.in_ok-finish.ensures.every exact (c.places.invariant.left_out.least ∙ least) s of);
      parts = λ exact least are.
          adds_more c.args.ways.now c.args.middles.now c.places.place c.index-middles-place.result c.args.tally.now c.places.tally c.finish.new.tally
          c.args.successors.now c.places.successors c.finish.new.successors (omega arith) (omega arith)
          (λ s of. c.in_ok-finish.ensures.parts exact (c.places.invariant.left_out.least ∙ least) (c.places.invariant.indexed are) s of)
          (c.places.invariant.parts exact least are);
      keeps = extends_then c.args.tally.now.count c.places.tally.count c.finish.new.tally.count c.args.successors.now c.places.successors c.finish.new.successors
          c.places.invariant.keeps c.in_ok-finish.ensures.keeps;
      left_out = leaves_then _ _ _ c.places.invariant.left_out c.in_ok-finish.ensures.left_out;
      probable = stay_then c.args.tally.now c.places.tally c.finish.new.tally c.args.successors.now c.places.successors c.finish.new.successors
          c.places.invariant.probable c.in_ok-finish.ensures.probable;
      takes = omega (arith, c.places.invariant.takes, c.finish.ensures.takes);
      indexed = λ are. c.in_ok-finish.ensures.indexed (c.places.invariant.indexed are);
      follow = still_then c.args.ways.now c.args.ways.now c.args.tally.now.count c.places.tally.count c.finish.new.tally.count
          c.args.successors.now c.places.successors c.finish.new.successors refl c.places.invariant.follow c.in_ok-finish.ensures.follow;
    }

pub returns-clause-every : goal.returns-clause-every
returns-clause-every c exact least =
    listed_all c.args.ways.now c.args.middles.now c.args.tally.now.count c.places.tally.count c.args.successors.now c.places.successors
    (λ k past lt. c.places.invariant.every exact least k past (omega (arith, lt))) c.places.invariant.keeps

pub returns-clause-parts : goal.returns-clause-parts
returns-clause-parts c exact least are =
    let all : c.places.place ≡ c.args.middles.now.len = omega arith in
    adds_all c.args.ways.now c.args.middles.now c.args.tally.now c.places.tally c.args.successors.now c.places.successors
    (λ k past lt. c.places.invariant.every exact least k past (omega (arith, lt, all)))
    (subst (λ (n : ℕ). AddsFirst c.args.ways.now c.args.middles.now n c.args.tally.now c.args.successors.now c.places.tally c.places.successors) all
    (c.places.invariant.parts exact least are))
