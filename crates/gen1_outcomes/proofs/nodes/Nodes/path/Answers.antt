use Rattle.std.proofs.Common.{◌∙◌, arith}
use Rattle.std.proofs.lemmas.List.{length-set}
use Rattle.gen1_outcomes.proofs.Paths.{drawn_more}
use Rattle.gen1_outcomes.proofs.nodes.Nodes.path.Goals as goal

pub places-init : goal.places-init
places-init c = record { length = omega arith; bytes = λ k none lt. absurd (omega (arith, lt)) }

pub places-preserved : goal.places-preserved
places-preserved c =
    record {
      length = length-set c.places.path c.places.place _ ∙ c.places.invariant.length;
      bytes = λ k none lt. drawn_more c.places.path c.args.self.now.list c.places.place _ (omega arith) (omega arith) c.places.invariant.bytes k none lt;
    }
