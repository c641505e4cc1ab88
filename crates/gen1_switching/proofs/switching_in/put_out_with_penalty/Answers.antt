use Rattle.gen1_layout.proofs.Words.{packed_of, refl}
use Rattle.gen1_switching.proofs.switching_in.put_out_with_penalty.Goals as goal

pub returns : goal.returns
returns c =
    record {
      stands = λ g f h there.
          let k = packed_of h in
          let status = c.status_at-status.ensures.packs g f k in
          let own = c.own_stats_at.ensures.packs g f k in
          c.put_out_with.ensures.stands g f h there (rw (c.stats_out-stats.ensures, status, own, c.number-at.ensures.value) refl);
      packs = λ g f k there.
          let status = c.status_at-status.ensures.packs g f k in
          let own = c.own_stats_at.ensures.packs g f k in
          c.put_out_with.ensures.packs g f k there (rw (c.stats_out-stats.ensures, status, own, c.number-at.ensures.value) refl);
    }
