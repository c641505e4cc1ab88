use Rattle.gen1_layout.proofs.Words.{refl}
use Rattle.gen1_layout.proofs.WaysBack.{ok_inside}
use Rattle.gen1_switching.proofs.switching_in.coming_out.Goals as goal

pub returns : goal.returns
returns c =
    record {
      packs = λ g f k there.
          let ok = ok_inside k c.args.side c.args.place there.0 there.1 in
          let number = c.number-at.ensures.value in
          let species = c.species_at.ensures.packs g f k in
          let hp = c.hp_at.ensures.packs g f k in
          let max = c.max_hp_at.ensures.packs g f k in
          let kind = c.kind_at.ensures.packs g f k in
          let level = c.level_at.ensures.packs g f k in
          record {
            event = rw (species, hp, max, kind, level, number) refl;
            ranges = rw (species, hp, max, level, number) (ok.species, ok.numbers.level, (ok.numbers.hp, ok.numbers.max.0, ok.numbers.max.1));
          };
    }
