use Rattle.std.proofs.Common.{Bool, [], ap, is_some, refl, sym, ℕ, ◌||◌, ◌≡◌, ◌∙◌, ◌∷◌}
use Rattle.std.specs.Int.RustNames.{bit_and}
use Rattle.gen1_stats.specs.Members.{sleeps_or_freezes}
use Rattle.gen1_machine.specs.Layout.{status_byte}
use Rattle.gen1_machine.specs.Sides.{other}
use Rattle.gen1_machine.specs.State.{status_in, underway_in}
use Rattle.gen1_machine.specs.declared.side.Side.{Side}
use Rattle.gen1_layout.proofs.Steps.{member_ok}
use Rattle.gen1_offers.proofs.MaskDigits.{awake, not_awake, pick_tests}
use Rattle.gen1_offers.proofs.choice_test.has_no_pick.Goals as goal

pub returns-then-has_any : goal.returns-then-has_any
returns-then-has_any c g f h is =
    let s = c.args.side in
    let some = sym (c.has_any.ensures.stands (10 ∷ 11 ∷ 1 ∷ 4 ∷ 0 ∷ 2 ∷ []) refl g f h) ∙ c.if-has_any.true in
    sym (pick_tests s f ∙ ap (λ (b : Bool). b || sleeps_or_freezes (status_in s f) || is_some (underway_in (other s) f).trapping) some)

pub returns-then-status-ne0 : goal.returns-then-status-ne0
returns-then-status-ne0 c g f h is =
    let s = c.args.side in
    let none = sym (c.has_any.ensures.stands (10 ∷ 11 ∷ 1 ∷ 4 ∷ 0 ∷ 2 ∷ []) refl g f h) ∙ c.if-has_any.false in
    let sleeps = not_awake (status_in s f) (λ (none : bit_and (status_byte (status_in s f)) 39 ≡ 0). c.if-status-ne0.true (ap (λ (n : ℕ). bit_and n 39) is ∙ none)) in
    sym (pick_tests s f ∙ ap (λ (b : Bool). b || sleeps_or_freezes (status_in s f) || is_some (underway_in (other s) f).trapping) none
    ∙ ap (λ (b : Bool). b || is_some (underway_in (other s) f).trapping) sleeps)

pub returns : goal.returns
returns c g f h is =
    let s = c.args.side in
    let none = sym (c.has_any.ensures.stands (10 ∷ 11 ∷ 1 ∷ 4 ∷ 0 ∷ 2 ∷ []) refl g f h) ∙ c.if-has_any.false in
    let wakes = awake g.terms.rules (status_in s f) (member_ok s h).status (ap (λ (n : ℕ). bit_and n 39) (sym is) ∙ c.if-status-ne0.false) in
    c.is_on.ensures.stands 2 refl g f h ∙ ap (λ (t : Side). is_some (underway_in t f).trapping) c.other.ensures
    ∙ sym (pick_tests s f ∙ ap (λ (b : Bool). b || sleeps_or_freezes (status_in s f) || is_some (underway_in (other s) f).trapping) none
    ∙ ap (λ (b : Bool). b || is_some (underway_in (other s) f).trapping) wakes)
