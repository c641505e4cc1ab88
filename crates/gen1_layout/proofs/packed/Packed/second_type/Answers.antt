use Rattle.gen1_machine.specs.State.{active_in}
use Rattle.gen1_layout.proofs.WaysBack.{element_back}
use Rattle.gen1_layout.proofs.packed.Packed.second_type.Goals as goal

pub returns : goal.returns
returns c =
    record { stands = λ g f h. rw (c.element_from.ensures, c.active.ensures.stands g f h) (element_back (active_in c.args.side f).second_type) }
