use Rattle.std.proofs.Common.{sym, ◌≡◌, ◌∙◌}
use Rattle.gen1_machine.specs.declared.side.Choice.TheVariants as choices
use Rattle.gen1_machine.specs.declared.terms.Request.TheVariants as requests
use Rattle.gen1_machine.specs.State.{request_of}
use Rattle.gen1_layout.specs.Shows.{setting_of}
use Rattle.gen1_offers.proofs.OfferedSet.{packs_of, within_asked}
use Rattle.gen1_offers.proofs.MaskDigits.{asks_move, asks_switch, offers_asked, switch_unasked}
use Rattle.gen1_offers.proofs.choice_test.fits_switch.Goals as goal

pub returns-then-request-eq1 : goal.returns-then-request-eq1
returns-then-request-eq1 c = record {
  stands = λ s h.
      let side = c.args.side in
      let asked = asks_move (request_of side s.field) (sym c.if-request-eq1.true ∙ c.asked-request.ensures.packs (setting_of s) s.field (packs_of h)) in
      let apart : (requests.Pass ≡ requests.Move → ⊥) = λ e. cc in
      c.may_switch_out.ensures.stands (setting_of s) s.field (within_asked side h asked apart)
      ∙ sym (offers_asked side s (choices.Switch c.args.place) h.valid asked apart);
}

pub returns-then-request-eq2 : goal.returns-then-request-eq2
returns-then-request-eq2 c = record {
  stands = λ s h.
      let side = c.args.side in
      let asked = asks_switch (request_of side s.field) (sym c.if-request-eq2.true ∙ c.asked-request.ensures.packs (setting_of s) s.field (packs_of h)) in
      let apart : (requests.Pass ≡ requests.Switch → ⊥) = λ e. cc in
      c.may_switch.ensures.stands (setting_of s) s.field (within_asked side h asked apart)
      ∙ sym (offers_asked side s (choices.Switch c.args.place) h.valid asked apart);
}

pub returns : goal.returns
returns c = record {
  stands = λ s h.
      sym (switch_unasked c.args.side s c.args.place c.asked-request.result (c.asked-request.ensures.packs (setting_of s) s.field (packs_of h))
      c.if-request-eq1.false c.if-request-eq2.false);
}
