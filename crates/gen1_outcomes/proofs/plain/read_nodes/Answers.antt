use Rattle.std.proofs.Common.{arith, refl, ◌∙◌}
use Rattle.std.proofs.lemmas.List.{length-set}
use Rattle.gen1_outcomes.proofs.Paths.{read_more, reads_more}
use Rattle.gen1_outcomes.proofs.plain.read_nodes.Goals as goal

pub places-init : goal.places-init
places-init c = record { options = refl; draws = λ k node draw lt. absurd (omega (arith, lt)); length = omega arith; reads = λ k none lt. absurd (omega (arith, lt)) }

pub places-preserved : goal.places-preserved
places-preserved c =
    record {
      options = c.places.invariant.options;
      draws = read_more c.places.nodes.list c.args.walk.now.draws c.places.place c.in-Some.node _ (omega arith) (omega arith) c.places.invariant.draws c.in-Some.ensures.draw;
      length = length-set c.places.nodes.list c.places.place _ ∙ c.places.invariant.length;
      reads = reads_more c.args.walk.now.draws c.places.place _ (omega arith) c.places.invariant.reads c.in-Some.ensures.reads;
    }
