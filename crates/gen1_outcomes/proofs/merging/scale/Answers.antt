use Rattle.std.proofs.Common.{arith, subst, sym, ◌∙◌}
use Rattle.gen1_outcomes.specs.declared.merging.Tally.{Tally}
use Rattle.gen1_outcomes.specs.Weights.{KeepsShares}
use Rattle.gen1_outcomes.proofs.Shares.{keeps_scaled, rest_less, scaled_more}
use Rattle.gen1_outcomes.proofs.merging.scale.Goals as goal

pub places-preserved : goal.places-preserved
places-preserved c =
    record {
      tally = c.places.invariant.tally;
      battles = λ k none. c.in_ok-multiply.ensures.battles k none ∙ c.places.invariant.battles k none;
      left_out = c.places.invariant.left_out;
      scaled = scaled_more c.args.successors.now c.places.successors c.multiply.new.successors c.places.place c.args.more
          c.places.invariant.scaled c.places.invariant.rest c.in_ok-multiply.ensures.here c.in_ok-multiply.ensures.others;
      rest = rest_less c.args.successors.now c.places.successors c.multiply.new.successors c.places.place c.places.invariant.rest c.in_ok-multiply.ensures.others;
    }

pub returns-clause-keeps : goal.returns-clause-keeps
returns-clause-keeps c =
    subst (λ (t : Tally). KeepsShares c.args.tally.now t c.args.successors.now c.places.successors) (sym c.places.invariant.tally)
    (keeps_scaled c.args.tally.now c.args.successors.now c.places.successors c.args.more c.requires.some
    (λ k past lt. c.places.invariant.scaled k past (omega (arith, lt, c.places-test.false, c.places.auto.place-end))))
