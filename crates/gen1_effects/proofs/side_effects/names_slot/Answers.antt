use Rattle.std.proofs.Common.{◌%◌}
use Rattle.gen1_layout.proofs.Words.{member_in, member_ok, refl}
use Rattle.gen1_effects.proofs.DisabledSlots.{holds_move}
use Rattle.gen1_effects.proofs.side_effects.names_slot.Goals as goal

pub returns : goal.returns
returns c = record {
  stands = λ g f h any.
      let s = c.args.foe in
      let id = c.move_in-held.ensures.stands g f h in
      let pp = c.pp-has_pp.ensures.stands g f h in
      rw (holds_move (member_in s f).moves (c.args.byte % 4) (member_ok s h).moves, ← any, ← id, ← pp) refl;
}
