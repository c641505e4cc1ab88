use Rattle.std.proofs.Common.{[], ap, is_some, refl, sym, ℕ, ◌∙◌, ◌∷◌, ◌≡◌}
use Rattle.std.specs.Int.RustNames.{bit_and}
use Rattle.gen1_stats.specs.Members.{sleeps_or_freezes}
use Rattle.gen1_machine.specs.Layout.{status_byte}
use Rattle.gen1_machine.specs.Sides.{other}
use Rattle.gen1_machine.specs.State.{status_in, underway_in}
use Rattle.gen1_machine.specs.declared.side.Side.{Side}
use Rattle.gen1_layout.proofs.Steps.{member_ok}
use Rattle.gen1_offers.proofs.OfferedSet.{or_of_or}
use Rattle.gen1_offers.proofs.MaskDigits.{awake, not_awake}
use Rattle.gen1_offers.proofs.masks.picks_none.Goals as goal

pub returns-then-status-ne0 : goal.returns-then-status-ne0
returns-then-status-ne0 c = record {
  stands = λ g f h is.
      let sleeps = not_awake (status_in c.args.side f) (λ (none : bit_and (status_byte (status_in c.args.side f)) 39 ≡ 0).
      c.if-status-ne0.true (ap (λ (n : ℕ). bit_and n 39) is ∙ none)) in
      rw sleeps refl;
}

pub returns-then-has_any : goal.returns-then-has_any
returns-then-has_any c = record {
  stands = λ g f h is.
      let s = c.args.side in
      let wakes = awake g.terms.rules (status_in s f) (member_ok s h).status (ap (λ (n : ℕ). bit_and n 39) (sym is) ∙ c.if-status-ne0.false) in
      let both = sym (c.has_any.ensures.stands (0 ∷ 2 ∷ []) (c.union.ensures tt) g f h) ∙ c.if-has_any.true in
      sym (sym (or_of_or (sleeps_or_freezes (status_in s f)) (is_some (underway_in s f).bide) (is_some (underway_in s f).trapping) (is_some (underway_in (other s) f).trapping))
      ∙ rw (wakes, both) refl);
}

pub returns : goal.returns
returns c = record {
  stands = λ g f h is.
      let s = c.args.side in
      let wakes = awake g.terms.rules (status_in s f) (member_ok s h).status (ap (λ (n : ℕ). bit_and n 39) (sym is) ∙ c.if-status-ne0.false) in
      let both = sym (c.has_any.ensures.stands (0 ∷ 2 ∷ []) (c.union.ensures tt) g f h) ∙ c.if-has_any.false in
      let is_held = c.is_on.ensures.stands 2 refl g f h ∙ ap (λ (t : Side). is_some (underway_in t f).trapping) c.other.ensures in
      is_held
      ∙ sym (sym (or_of_or (sleeps_or_freezes (status_in s f)) (is_some (underway_in s f).bide) (is_some (underway_in s f).trapping) (is_some (underway_in (other s) f).trapping))
      ∙ rw (wakes, both) refl);
}
