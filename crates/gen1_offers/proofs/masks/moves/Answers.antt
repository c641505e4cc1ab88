use Rattle.std.proofs.Common.{Bool, List, ap, arith, false, sym, ℕ, ◌*◌, ◌≡◌, ◌∙◌, ◌∷◌}
use Rattle.gen1_machine.specs.Layout.{number_of_bits}
use Rattle.gen1_machine.specs.State.{conditions_in, member_in}
use Rattle.gen1_layout.proofs.Steps.{member_ok}
use Rattle.gen1_offers.specs.OfferedChoices.{is_usable, usable_of}
use Rattle.gen1_offers.proofs.OfferedSet.{usable-behind}
use Rattle.gen1_offers.proofs.MaskDigits.{move_digits, no_slot_digits, nothing_usable, something_usable, struggle_digits}
use Rattle.std.proofs.Common.{get_or}
use Rattle.gen1_offers.proofs.masks.moves.Goals as goal

pub returns-then-picks_none-clause-stands : goal.returns-then-picks_none-clause-stands
returns-then-picks_none-clause-stands c g f h block =
    no_slot_digits c.args.side f (sym (c.picks_none.ensures.stands g f h (ap (λ (l : List ℕ). get_or l 14 0) block)) ∙ c.if-picks_none.true)

pub returns-then-usable-eq0-clause-stands : goal.returns-then-usable-eq0-clause-stands
returns-then-usable-eq0-clause-stands c g f h block =
    let s = c.args.side in
    let picks = sym (c.picks_none.ensures.stands g f h (ap (λ (l : List ℕ). get_or l 14 0) block)) ∙ c.if-picks_none.false in
    let none : number_of_bits (false ∷ usable_of s f) ≡ 0 = sym (c.usable-usable.ensures.stands g f h block) ∙ c.if-usable-eq0.true in
    let digits = move_digits s f picks (usable-behind (conditions_in s f).disabled (member_in s f).moves) in
    struggle_digits (is_usable s f 1) (is_usable s f 2) (is_usable s f 3) (is_usable s f 4) none
    ∙ ap (λ (b : Bool). number_of_bits (false ∷ b ∷ usable_of s f)) (sym (nothing_usable s f (member_ok s h).numbers.slots.1 none))
    ∙ sym (ap number_of_bits digits)

pub returns-else-usable-eq0-clause-stands : goal.returns-else-usable-eq0-clause-stands
returns-else-usable-eq0-clause-stands c g f h block =
    let s = c.args.side in
    let picks = sym (c.picks_none.ensures.stands g f h (ap (λ (l : List ℕ). get_or l 14 0) block)) ∙ c.if-picks_none.false in
    let is = c.usable-usable.ensures.stands g f h block in
    let some = something_usable s f (member_ok s h).numbers.slots.1 (λ (none : number_of_bits (false ∷ usable_of s f) ≡ 0). c.if-usable-eq0.false (is ∙ none)) in
    let digits = move_digits s f picks (usable-behind (conditions_in s f).disabled (member_in s f).moves) in
    let above : 2 * number_of_bits (false ∷ usable_of s f) ≡ number_of_bits (false ∷ false ∷ usable_of s f) = omega arith in
    ap (λ (n : ℕ). 2 * n) is ∙ above
    ∙ ap (λ (b : Bool). number_of_bits (false ∷ b ∷ usable_of s f)) (sym some)
    ∙ sym (ap number_of_bits digits)
