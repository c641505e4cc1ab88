use Rattle.std.proofs.Common.{Bool, ap, not, sym, ◌∙◌}
use Rattle.gen1_machine.specs.State.{is_over}
use Rattle.gen1_layout.specs.Shows.{setting_of}
use Rattle.gen1_offers.proofs.OfferedSet.{packs_of}
use Rattle.gen1_offers.proofs.MaskDigits.{pass_asked, pass_unasked}
use Rattle.gen1_offers.proofs.choice_test.fits_pass.Goals as goal

pub returns-then-asked-ne0 : goal.returns-then-asked-ne0
returns-then-asked-ne0 c s h =
    sym (pass_unasked c.args.side s c.asked.result (c.asked.ensures.packs (setting_of s) s.field (packs_of h)) c.if-asked-ne0.true)

pub returns : goal.returns
returns c s h =
    let over = c.is_over.ensures ∙ ap is_over (c.outcome.ensures.packs (setting_of s) s.field (packs_of h)) in
    ap (λ (b : Bool). not b) over
    ∙ sym (pass_asked c.args.side s c.asked.result (c.asked.ensures.packs (setting_of s) s.field (packs_of h)) c.if-asked-ne0.false)
