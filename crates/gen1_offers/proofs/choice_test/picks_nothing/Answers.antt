use Rattle.std.proofs.Common.{ap, sym, ℕ, ◌==◌, ◌∙◌}
use Rattle.gen1_layout.proofs.Steps.{member_ok}
use Rattle.gen1_offers.proofs.OfferedSet.{committed_slot, no_slot, slot_zero}
use Rattle.gen1_offers.proofs.MaskDigits.{none_usable}
use Rattle.gen1_offers.proofs.choice_test.picks_nothing.Goals as goal

pub returns-then-is_committed : goal.returns-then-is_committed
returns-then-is_committed c g f h =
    sym (committed_slot c.args.side f 0 (sym (c.is_committed.ensures g f h) ∙ c.if-is_committed.true))

pub returns-then-has_no_slot : goal.returns-then-has_no_slot
returns-then-has_no_slot c g f h =
    let free = sym (c.is_committed.ensures g f h) ∙ c.if-is_committed.false in
    sym (no_slot c.args.side f 0 free (sym (c.has_no_slot.ensures g f h) ∙ c.if-has_no_slot.true))

pub returns : goal.returns
returns c g f h =
    let s = c.args.side in
    let free = sym (c.is_committed.ensures g f h) ∙ c.if-is_committed.false in
    let picks = sym (c.has_no_slot.ensures g f h) ∙ c.if-has_no_slot.false in
    ap (λ (n : ℕ). n == 0) (c.usable.ensures.stands g f h (c.member_out.ensures.stands g f h)) ∙ none_usable s f (member_ok s h).numbers.slots.1 ∙ sym (slot_zero s f free picks)
