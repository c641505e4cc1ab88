use Rattle.gen1_layout.proofs.Words.{party}
use Rattle.gen1_layout.proofs.WaysBack.{any_of_six, members_in}
use Rattle.gen1_layout.proofs.packed.Packed.has_living.Goals as goal

pub returns : goal.returns
returns c =
    record {
      packs = λ g f h.
          rw (c.lives_at-one.ensures.packs g f h, c.lives_at-two.ensures.packs g f h, c.lives_at-three.ensures.packs g f h, c.lives_at-four.ensures.packs g f h, c.lives_at-five.ensures.packs g f h, c.lives_at-six.ensures.packs g f h)
          (any_of_six (party c.args.side f).members (members_in h c.args.side).size.1);
    }
