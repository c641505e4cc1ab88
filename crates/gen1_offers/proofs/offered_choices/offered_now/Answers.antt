use Rattle.std.proofs.Common.{ap, sym, ◌∙◌, ◌≡◌}
use Rattle.gen1_machine.specs.declared.terms.Request.{Request}
use Rattle.gen1_machine.specs.declared.terms.Request.TheVariants as requests
use Rattle.gen1_machine.specs.OfferedChoices.{offered_for}
use Rattle.gen1_layout.specs.Shows.{setting_of}
use Rattle.gen1_offers.proofs.OfferedSet.{packs_of, within_asked}
use Rattle.gen1_offers.proofs.offered_choices.offered_now.Goals as goal

pub returns-in-Pass : goal.returns-in-Pass
returns-in-Pass c s h goes_on =
    let asked = sym (c.request.ensures.packs (setting_of s) s.field (packs_of h)) ∙ c.in-Pass.is in
    c.only.ensures.items ∙ ap (λ (r : Request). offered_for r c.args.side s.field) (sym asked)

pub returns-in-Move : goal.returns-in-Move
returns-in-Move c s h goes_on =
    let asked = sym (c.request.ensures.packs (setting_of s) s.field (packs_of h)) ∙ c.in-Move.is in
    let apart : (requests.Pass ≡ requests.Move → ⊥) = λ e. cc in
    c.offered_to_move.ensures (setting_of s) s.field (within_asked c.args.side h asked apart)
    ∙ ap (λ (r : Request). offered_for r c.args.side s.field) (sym asked)

pub returns-in-Switch : goal.returns-in-Switch
returns-in-Switch c s h goes_on =
    let asked = sym (c.request.ensures.packs (setting_of s) s.field (packs_of h)) ∙ c.in-Switch.is in
    let apart : (requests.Pass ≡ requests.Switch → ⊥) = λ e. cc in
    c.offered_to_switch.ensures (setting_of s) s.field (within_asked c.args.side h asked apart)
    ∙ ap (λ (r : Request). offered_for r c.args.side s.field) (sym asked)
