use Rattle.std.proofs.Common.{sym, ◌≡◌, ◌∙◌}
use Rattle.gen1_machine.specs.declared.side.Choice.TheVariants as choices
use Rattle.gen1_machine.specs.declared.terms.Request.TheVariants as requests
use Rattle.gen1_machine.specs.State.{request_of}
use Rattle.gen1_layout.specs.Shows.{setting_of}
use Rattle.gen1_offers.proofs.OfferedSet.{packs_of, within_asked}
use Rattle.gen1_offers.proofs.MaskDigits.{asks_move, move_unasked, offers_asked}
use Rattle.gen1_offers.proofs.choice_test.fits_move.Goals as goal

pub returns-then-asked-ne1 : goal.returns-then-asked-ne1
returns-then-asked-ne1 c s h =
    sym (move_unasked c.args.side s c.args.slot c.asked.result (c.asked.ensures.packs (setting_of s) s.field (packs_of h)) c.if-asked-ne1.true)

pub returns : goal.returns
returns c s h =
    let side = c.args.side in
    let asked = asks_move (request_of side s.field) (sym c.if-asked-ne1.false ∙ c.asked.ensures.packs (setting_of s) s.field (packs_of h)) in
    let apart : (requests.Pass ≡ requests.Move → ⊥) = λ e. cc in
    c.may_use.ensures (setting_of s) s.field (within_asked side h asked apart) ∙ sym (offers_asked side s (choices.Move c.args.slot) h.valid asked apart)
