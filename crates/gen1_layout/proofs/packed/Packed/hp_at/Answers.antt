use Rattle.gen1_layout.proofs.Words.{[], packed_of, party, word_back}
use Rattle.gen1_machine.specs.State.{member_at}
use Rattle.gen1_layout.proofs.WaysBack.{hp_fits_at}
use Rattle.gen1_layout.proofs.packed.Packed.hp_at.Goals as goal

pub returns-clause-packs : goal.returns-clause-packs
returns-clause-packs c g f h = rw (c.read_u16.ensures, c.member.ensures.packs g f h) (word_back (member_at c.args.place (party c.args.side f)).hp [] (hp_fits_at h c.args.side c.args.place))

pub returns-clause-stands : goal.returns-clause-stands
returns-clause-stands c g f h = returns-clause-packs c g f (packed_of h)
