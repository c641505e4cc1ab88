use Rattle.gen1_layout.proofs.Words.{conditions_in, refl, ◌∙◌}
use Rattle.gen1_layout.proofs.Counts.{count_back}
use Rattle.gen1_layout.proofs.packed.Packed.substitute.Goals as goal

pub returns : goal.returns
returns c =
    record { stands = λ g f h. c.count_of.ensures.stands 9 refl g f h ∙ count_back (conditions_in c.args.side f).substitute }
