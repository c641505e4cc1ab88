use Rattle.gen1_layout.proofs.Words.{member_in, member_ok, refl}
use Rattle.gen1_effects.proofs.DisabledSlots.{has_pp-is}
use Rattle.gen1_effects.proofs.side_effects.has_pp.Goals as goal

pub returns : goal.returns
returns c = record {
  stands = λ g f h.
      let s = c.args.side in
      rw (has_pp-is (member_in s f).moves (member_ok s h).numbers.slots.1, ← c.pp-one.ensures.stands g f h, ← c.pp-two.ensures.stands g f h, ← c.pp-three.ensures.stands g f h, ← c.pp-four.ensures.stands g f h) refl;
}
