use Rattle.std.proofs.Common.{ap, refl, ◌∙◌}
use Rattle.gen1_machine.specs.declared.side.Side.{Side}
use Rattle.gen1_player.specs.OwnSide.{own_side, plain_side}
use Rattle.gen1_c.proofs.OddsDue.{same_side}
use Rattle.gen1_c.proofs.players.gen1_get_own_side.Goals as goal

pub returns-clause-shows : goal.returns-clause-shows
returns-clause-shows c s which h e =
    let side = same_side c.in-Some.side which (c.in-Some.ensures.exact ∙ e) in
    (refl, c.own_side.ensures.stands s h ∙ ap (λ (it : Side). plain_side (own_side it s.field)) side)
