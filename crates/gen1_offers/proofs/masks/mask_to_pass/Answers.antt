use Rattle.std.proofs.Common.{ap, refl, rules, sym, ◌∙◌}
use Rattle.gen1_machine.specs.declared.terms.Request.{Request}
use Rattle.gen1_machine.specs.State.{is_over}
use Rattle.gen1_machine.specs.OfferedChoices.{offered, offered_for}
use Rattle.gen1_layout.specs.Shows.{setting_of}
use Rattle.gen1_offers.specs.OfferedChoices.{mask_of}
use Rattle.gen1_offers.proofs.OfferedSet.{is_over_unless, packs_of}
use Rattle.gen1_offers.proofs.masks.mask_to_pass.Goals as goal

pub returns-in-Ongoing-clause-stands : goal.returns-in-Ongoing-clause-stands
unfolding offered mask_of
returns-in-Ongoing-clause-stands c s side h asked =
    let goes_on = ap is_over (sym (c.outcome.ensures.packs (setting_of s) s.field (packs_of h)) ∙ c.in-Ongoing.is) in
    rw goes_on (ap (λ (r : Request). mask_of (offered_for r side s.field)) (sym asked))

pub returns-in_default : goal.returns-in_default
unfolding offered mask_of
returns-in_default c = record {
  stands = λ s side h asked.
      let over = ap is_over (sym (c.outcome.ensures.packs (setting_of s) s.field (packs_of h))) ∙ is_over_unless c.outcome.result c.in_default.not-Ongoing in
      rw over refl;
  twelve = search rules;
}
