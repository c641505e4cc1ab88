use Rattle.gen1_layout.proofs.Words.{active_ok, refl, underway_in, ◌∙◌}
use Rattle.gen1_layout.proofs.Counts.{thrash_back}
use Rattle.gen1_layout.proofs.packed.Packed.thrash.Goals as goal

pub returns : goal.returns
returns c =
    record {
      stands = λ g f h.
          let u = underway_in c.args.side f in
          c.count_of.ensures.stands 1 refl g f h ∙ thrash_back u.bide u.thrash u.trapping (active_ok c.args.side h).conditions.underway.alone;
    }
