use Rattle.gen1_layout.proofs.Words.{refl, underway_in, ◌∙◌}
use Rattle.gen1_layout.proofs.Counts.{bide_back}
use Rattle.gen1_layout.proofs.packed.Packed.bide.Goals as goal

pub returns : goal.returns
returns c =
    record {
      stands = λ g f h.
          let u = underway_in c.args.side f in c.count_of.ensures.stands 0 refl g f h ∙ bide_back u.bide u.thrash u.trapping;
    }
