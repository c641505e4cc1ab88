use Rattle.std.proofs.Common.{[]}
use Rattle.gen1_machine.specs.State.{member_at, party}
use Rattle.gen1_layout.proofs.WaysBack.{stats_fit_at, word_back}
use Rattle.gen1_layout.proofs.packed.Packed.max_hp_at.Goals as goal

pub returns : goal.returns
returns c =
    record {
      packs = λ g f h. rw (c.read_u16.ensures, c.member.ensures.packs g f h) (word_back (member_at c.args.place (party c.args.side f)).max [] (stats_fit_at h c.args.side c.args.place).0);
    }
