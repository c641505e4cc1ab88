use Rattle.std.proofs.Common.{ap, arith, get_or, refl, ℕ, ◌%◌, ◌*◌, ◌/◌, ◌<◌, ◌^◌, ◌∙◌, ◌≡◌}
use Rattle.gen1_machine.specs.declared.side.Choice.TheVariants as choices
use Rattle.gen1_offers.specs.OfferedChoices.{switches}
use Rattle.gen1_offers.proofs.MaskChoices.{counts, finds, row_of}
use Rattle.gen1_offers.proofs.masks.digit_in.Goals as goal

pub returns-clause-at : goal.returns-clause-at
returns-clause-at c cs six =
    let small : c.args.six ≡ c.args.six % 64 = omega (arith, c.requires.six) in
    let inside : c.args.place < row_of c.args.six / 2 ^ 28 = rw (counts switches c.args.six refl c.requires.six) c.requires.inside in
    finds cs c.args.six c.args.place six c.requires.six inside
    ∙ ap (λ (n : ℕ). get_or cs (row_of n / 2 ^ (4 * c.args.place) % 16) choices.Pass) small
