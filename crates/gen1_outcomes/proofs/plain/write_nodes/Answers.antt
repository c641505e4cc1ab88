use Rattle.std.proofs.Common.{arith, inr, refl, ◌∙◌}
use Rattle.std.proofs.lemmas.List.{length-set}
use Rattle.gen1_outcomes.proofs.Paths.{unused_more, written_more}
use Rattle.gen1_outcomes.proofs.plain.write_nodes.Goals as goal

pub places-init : goal.places-init
places-init c = record { draws = λ k node draw lt. absurd (omega (arith, lt)); unused = λ k draw. inr refl; length = omega arith }

pub places-preserved : goal.places-preserved
places-preserved c =
    record {
      draws = written_more c.args.nodes.now.list c.places.written c.places.place _ c.plain_of.result (omega arith) (omega arith) c.places.invariant.draws c.plain_of.ensures.draw;
      unused = unused_more c.args.written.now c.places.written c.places.place c.plain_of.result (omega arith) c.places.invariant.unused c.plain_of.ensures.unused;
      length = length-set c.places.written c.places.place _ ∙ c.places.invariant.length;
    }
