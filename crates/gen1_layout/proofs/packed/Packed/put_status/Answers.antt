use Rattle.gen1_layout.proofs.Words.{member_ok, refl}
use Rattle.gen1_layout.proofs.Out.{out_written}
use Rattle.gen1_layout.proofs.packed.Packed.put_status.Goals as goal

pub returns : goal.returns
returns c =
    record {
      stands = λ g f change h makes fits.
          let packed = c.member_out_mut-member.ensures.packed in
          let block = c.member_out_mut-member.ensures.stands g f h in
          let ok = member_ok c.args.side h in
          let numbers = ok.numbers in
          out_written h c.args.side change _ _ packed.0 packed.1 makes (rw (block, c.byte_of_status-byte.ensures, c.mark_of_status-mark.ensures) refl)
          (record { attack = refl; defense = refl; speed = refl; special = refl }) refl
          (record { numbers = record { level = numbers.level; max = numbers.max; hp = numbers.hp; attack = numbers.attack; defense = numbers.defense; speed = numbers.speed; special = numbers.special; slots = numbers.slots; known = numbers.known; distinct = numbers.distinct }; species = ok.species; moves = ok.moves; status = fits });
    }
