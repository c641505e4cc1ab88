use Rattle.std.proofs.Common.{List, ap, arith, get_or, nat_lt, not, sym, ℕ, ◌&&◌, ◌∙◌}
use Rattle.gen1_machine.specs.OfferedChoices.{bars_slot, has_no_slot_in, is_committed}
use Rattle.gen1_machine.specs.State.{conditions_in, underway_in}
use Rattle.gen1_offers.proofs.OfferedSet.{slot_above}
use Rattle.gen1_offers.proofs.MaskDigits.{neither, unpicked_slot}
use Rattle.gen1_offers.proofs.choice_test.may_use.Goals as goal

pub returns-then-slot-eq0 : goal.returns-then-slot-eq0
returns-then-slot-eq0 c g f h = rw (c.if-slot-eq0.true) (c.picks_nothing.ensures g f h)

pub returns-then-has_no_pick : goal.returns-then-has_no_pick
returns-then-has_no_pick c g f h =
    let s = c.args.side in
    let none = c.has_no_pick.ensures g f h (ap (λ (l : List ℕ). get_or l 14 0) (c.member_out.ensures.stands g f h)) in
    sym (unpicked_slot s f c.args.slot (sym none ∙ c.if-has_no_pick.true) (omega arith))

pub returns : goal.returns
returns c g f h =
    let s = c.args.side in
    let none = c.has_no_pick.ensures g f h (ap (λ (l : List ℕ). get_or l 14 0) (c.member_out.ensures.stands g f h)) in
    let free = neither (is_committed (underway_in s f)) (has_no_slot_in s f) (sym none ∙ c.if-has_no_pick.false) in
    c.has_use.ensures g f h
    ∙ ap (λ (n : ℕ). nat_lt 0 n && not (bars_slot (conditions_in s f).disabled c.args.slot)) (c.pp.ensures.stands g f h)
    ∙ sym (slot_above s f c.args.slot free.0 free.1 (omega arith))
