use Rattle.std.proofs.Common.{ap, arith, inr, length, ℕ, ◌∙◌, ◌≡◌, ◌≤◌}
use Rattle.gen1_machine.specs.OfferedChoices.{offered}
use Rattle.gen1_layout.specs.Shows.{setting_of}
use Rattle.gen1_offers.specs.OfferedChoices.{choices_in}
use Rattle.gen1_offers.proofs.MaskChoices.{offered_chosen}
use Rattle.gen1_playouts.specs.Playouts.{weight_in}
use Rattle.gen1_playouts.proofs.Playing.{drawn-alike, drawn-weighted, within-several}
use Rattle.gen1_playouts.proofs.playouts.draw_by_weights.Goals as goal

pub returns-then-count_of-lt2 : goal.returns-then-count_of-lt2
returns-then-count_of-lt2 c s h going is =
    let few : length (choices_in c.args.mask) ≤ 1 = omega (arith, c.count_of.ensures.value, c.if-count_of-lt2.true) in
    drawn-alike c.args.side s c.args.options.now.weights c.args.mask _ h.valid going is (inr few) c.pick.ensures.drawn

pub returns : goal.returns
returns c s h going is =
    let mask = c.args.mask in
    let same : length (choices_in mask) ≡ length (offered c.args.side s.field) = ap (λ (n : ℕ). length (choices_in n)) is ∙ ap length (offered_chosen s c.args.side h.valid) in
    let within = within-several c.args.side h (omega (arith, c.count_of.ensures.value, c.if-count_of-lt2.false, same)) in
    drawn-weighted c.args.side s c.args.options.now.weights mask _ h.valid going is
    (c.pick_weighted.ensures (weight_in c.args.options.now.weights c.args.side s.field) (c.weights_of-weights.ensures (setting_of s) s.field within))
