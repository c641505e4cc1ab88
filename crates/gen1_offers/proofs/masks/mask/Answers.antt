use Rattle.std.proofs.Common.{ap, sym, ◌≡◌, ◌∙◌}
use Rattle.gen1_machine.specs.declared.terms.Request.{Request}
use Rattle.gen1_machine.specs.declared.terms.Request.TheVariants as requests
use Rattle.gen1_machine.specs.OfferedChoices.{offered, offered_for}
use Rattle.gen1_machine.specs.State.{request_of}
use Rattle.gen1_layout.specs.Shows.{setting_of}
use Rattle.gen1_offers.specs.OfferedChoices.{mask_of}
use Rattle.gen1_offers.proofs.OfferedSet.{packs_of, within_asked}
use Rattle.gen1_offers.proofs.MaskDigits.{asks_move, asks_pass, asks_switch, goes_on}
use Rattle.gen1_offers.proofs.masks.mask.Goals as goal

pub returns-then-request-eq1-clause-stands : goal.returns-then-request-eq1-clause-stands
unfolding offered
returns-then-request-eq1-clause-stands c s h known =
    let side = c.args.side in
    let asked = asks_move (request_of side s.field) (sym c.if-request-eq1.true ∙ c.asked-request.ensures.packs (setting_of s) s.field (packs_of h)) in
    let apart : (requests.Pass ≡ requests.Move → ⊥) = λ e. cc in
    rw (goes_on side s h.valid asked apart)
    (c.mask_to_move.ensures.stands (setting_of s) s.field (within_asked side h asked apart) known ∙ ap (λ (r : Request). mask_of (offered_for r side s.field)) (sym asked))

pub returns-then-request-eq2-clause-stands : goal.returns-then-request-eq2-clause-stands
unfolding offered
returns-then-request-eq2-clause-stands c s h known =
    let side = c.args.side in
    let asked = asks_switch (request_of side s.field) (sym c.if-request-eq2.true ∙ c.asked-request.ensures.packs (setting_of s) s.field (packs_of h)) in
    let apart : (requests.Pass ≡ requests.Switch → ⊥) = λ e. cc in
    rw (goes_on side s h.valid asked apart)
    (c.mask_to_switch.ensures.stands (setting_of s) s.field (within_asked side h asked apart) known ∙ ap (λ (r : Request). mask_of (offered_for r side s.field)) (sym asked))

pub returns-clause-stands : goal.returns-clause-stands
returns-clause-stands c s h known =
    let side = c.args.side in
    c.mask_to_pass.ensures.stands s side h
    (asks_pass (request_of side s.field) c.asked-request.result (c.asked-request.ensures.packs (setting_of s) s.field (packs_of h)) c.if-request-eq1.false c.if-request-eq2.false)
