use Rattle.gen1_machine.specs.State.{member_at, party}
use Rattle.gen1_layout.proofs.WaysBack.{status_back, status_ok_at}
use Rattle.gen1_layout.proofs.Steps.{packed_of}
use Rattle.gen1_layout.proofs.packed.Packed.status_at.Goals as goal

pub returns-clause-packs : goal.returns-clause-packs
returns-clause-packs c g f h = rw (c.status_from.ensures, c.member-member.ensures.packs g f h) (status_back g.terms.rules (member_at c.args.place (party c.args.side f)).status (status_ok_at h c.args.side c.args.place))

pub returns-clause-stands : goal.returns-clause-stands
returns-clause-stands c g f h = returns-clause-packs c g f (packed_of h)
