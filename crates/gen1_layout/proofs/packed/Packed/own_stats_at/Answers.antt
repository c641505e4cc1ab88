use Rattle.std.proofs.Common.{[], refl}
use Rattle.gen1_machine.specs.State.{member_at, party}
use Rattle.gen1_layout.proofs.WaysBack.{stats_fit_at, word_back}
use Rattle.gen1_layout.proofs.packed.Packed.own_stats_at.Goals as goal

pub returns : goal.returns
returns c =
    record {
      packs = λ g f h.
          let m = member_at c.args.place (party c.args.side f) in
          let fit = stats_fit_at h c.args.side c.args.place in
          rw (c.read_u16.ensures, c.read_u16-2.ensures, c.read_u16-3.ensures, c.read_u16-4.ensures, c.member-member.ensures.packs g f h)
          (rw (word_back m.attack [] fit.1, word_back m.defense [] fit.2, word_back m.speed [] fit.3, word_back m.special [] fit.4) refl);
    }
