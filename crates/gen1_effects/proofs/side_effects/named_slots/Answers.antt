use Rattle.gen1_layout.proofs.Words.{member_in}
use Rattle.gen1_effects.proofs.DisabledSlots.{named_by}
use Rattle.gen1_effects.proofs.side_effects.named_slots.Goals as goal

pub returns : goal.returns
returns c = record {
  stands = λ g f h any byte.
      named_by (member_in c.args.foe f).moves (c.names_slot.ensures.stands g f h any) (c.names_slot-2.ensures.stands g f h any)
      (c.names_slot-3.ensures.stands g f h any) (c.names_slot-4.ensures.stands g f h any) byte;
}
