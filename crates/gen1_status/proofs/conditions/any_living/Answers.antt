use Rattle.gen1_layout.proofs.Words.{Member, party}
use Rattle.gen1_layout.proofs.WaysBack.{members_in}
use Rattle.gen1_status.specs.Statuses.{counts}
use Rattle.gen1_status.proofs.Statuses.{any_of_six}
use Rattle.gen1_status.proofs.conditions.any_living.Goals as goal

pub returns : goal.returns
returns c =
    record {
      packs = λ g f h.
          rw (c.counts_at-one.ensures.packs g f h, c.counts_at-two.ensures.packs g f h, c.counts_at-three.ensures.packs g f h, c.counts_at-four.ensures.packs g f h, c.counts_at-five.ensures.packs g f h, c.counts_at-six.ensures.packs g f h)
          (any_of_six (λ (m : Member). counts c.args.clause m.status) (party c.args.side f).members (members_in h c.args.side).size.1);
    }
