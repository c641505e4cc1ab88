use Rattle.gen1_layout.proofs.Steps.{packed_of}
use Rattle.gen1_status.proofs.conditions.has_frozen_member.Goals as goal

pub returns : goal.returns
returns c = record { stands = λ g f h. c.any_living.ensures.packs g f (packed_of h) }
