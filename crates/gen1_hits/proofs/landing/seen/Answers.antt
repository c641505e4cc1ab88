use Rattle.gen1_layout.proofs.Words.{member_ok, refl}
use Rattle.gen1_hits.proofs.landing.seen.Goals as goal

pub returns : goal.returns
returns c =
    record {
      stands = λ g f h.
          let ok = member_ok c.args.side h in
          let species = c.species_number.ensures.stands g f h in
          let hp = c.hp.ensures.stands g f h in
          let max = c.max_hp.ensures.stands g f h in
          let kind = c.kind.ensures.stands g f h in
          record {
            who = rw species refl;
            health = rw (hp, max, kind) refl;
            ranges = rw (species, hp, max) (ok.species, (ok.numbers.hp, ok.numbers.max.0, ok.numbers.max.1));
          };
    }
