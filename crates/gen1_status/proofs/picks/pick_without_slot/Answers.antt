use Rattle.gen1_layout.proofs.Words.{Side, ap, is_some, refl, sym, underway_in, ◌∙◌}
use Rattle.gen1_stats.specs.Members.{sleeps_or_freezes}
use Rattle.gen1_status.proofs.picks.pick_without_slot.Goals as goal

pub returns-then-is_on : goal.returns-then-is_on
returns-then-is_on c =
    record {
      stands = λ g f h.
          let foe = ap (λ (s : Side). is_some (underway_in s f).trapping) c.other.ensures in
          let first = sym (c.must_continue.ensures.stands g f h) ∙ c.if-must_continue.false in
          let second = sym (c.sleeps_or_freezes.ensures ∙ ap sleeps_or_freezes (c.status.ensures.stands g f h)) ∙ c.if-sleeps_or_freezes.false in
          let third = sym (c.is_on.ensures.stands 2 refl g f h ∙ foe) ∙ c.if-is_on.true in
          rw (first, second, third) refl;
    }

pub returns : goal.returns
returns c =
    record {
      stands = λ g f h.
          let foe = ap (λ (s : Side). is_some (underway_in s f).trapping) c.other.ensures in
          let first = sym (c.must_continue.ensures.stands g f h) ∙ c.if-must_continue.false in
          let second = sym (c.sleeps_or_freezes.ensures ∙ ap sleeps_or_freezes (c.status.ensures.stands g f h)) ∙ c.if-sleeps_or_freezes.false in
          let third = sym (c.is_on.ensures.stands 2 refl g f h ∙ foe) ∙ c.if-is_on.false in
          rw (first, second, third) refl;
    }
