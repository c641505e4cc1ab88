use Rattle.std.proofs.Common.{ap, sym, ◌∙◌}
use Rattle.gen1_machine.specs.State.{is_over}
use Rattle.gen1_machine.specs.OfferedChoices.{offered}
use Rattle.gen1_layout.specs.Shows.{setting_of}
use Rattle.gen1_offers.proofs.OfferedSet.{is_over_unless, packs_of}
use Rattle.gen1_offers.proofs.offered_choices.offered.Goals as goal

pub returns-in-Ongoing : goal.returns-in-Ongoing
unfolding offered
returns-in-Ongoing c s h =
    let goes_on = ap is_over (sym (c.outcome.ensures.packs (setting_of s) s.field (packs_of h)) ∙ c.in-Ongoing.is) in
    rw goes_on (c.offered_now.ensures s h goes_on)

pub returns-in_default : goal.returns-in_default
unfolding offered
returns-in_default c s h =
    let over = ap is_over (sym (c.outcome.ensures.packs (setting_of s) s.field (packs_of h))) ∙ is_over_unless c.outcome.result c.in_default.not-Ongoing in
    rw over c.new.ensures
