use Rattle.std.proofs.Common.{List, ap, length, subst, sym, ◌≤◌, ◌∙◌}
use Rattle.gen1_machine.specs.declared.side.Choice.{Choice}
use Rattle.gen1_offers.specs.OfferedChoices.{choices_in}
use Rattle.gen1_offers.proofs.MaskChoices.{few_offered, offered_chosen}
use Rattle.gen1_c.specs.Battle.{Offers}
use Rattle.gen1_c.proofs.choices.put_offered.Goals as goal

pub returns-clause-offers : goal.returns-clause-offers
returns-clause-offers c s h =
    let list = ap choices_in (c.offered_mask.ensures.stands s h) ∙ offered_chosen s c.args.side h.valid in
    subst (λ (l : List Choice). Offers l c.args.choices.now c.put_choices.new.choices c.put_choices.result) list
    (c.put_choices.ensures.offers (subst (λ (l : List Choice). length l ≤ 9) (sym list) (few_offered s c.args.side h.valid)))
