use Rattle.std.proofs.Common.{◌||◌}
use Rattle.gen1_layout.proofs.Words.{Action, ap, drawn_goes, drawn_if_not, drawn_if_so, drawn_stays, sym, ◌∙◌}
use Rattle.gen1_machine.specs.ManyHits.{hits}
use Rattle.gen1_machine.specs.Moves.{move_at}
use Rattle.gen1_machine.specs.Sides.{other}
use Rattle.gen1_machine.specs.State.{has_fallen_in}
use Rattle.gen1_rolls.specs.Draws.{by_then}
use Rattle.gen1_turn.proofs.action.steps.hits_with_effect.Goals as goal

pub returns-then-has_no_effect-clause-shown : goal.returns-then-has_no_effect-clause-shown
returns-then-has_no_effect-clause-shown t c since g p h =
    let a = c.hits.ensures.shown since g p h in
    let none = ap (λ (x : Action). x.letting_go || (x.broke || has_fallen_in (other c.args.side) (hits c.args.side (move_at c.args.id) p).field)) a.shows.action
    ∙ sym (c.has_no_effect.ensures.stands _ _ a.shows.within) ∙ c.if-has_no_effect.true in
    drawn_goes _ _ a (drawn_if_so _ _ _ none (drawn_stays a))

pub returns-clause-shown : goal.returns-clause-shown
returns-clause-shown t c since g p h =
    let a = c.hits.ensures.shown (by_then c.side_effect_knowing.ensures.steps since) g p h in
    let some = ap (λ (x : Action). x.letting_go || (x.broke || has_fallen_in (other c.args.side) (hits c.args.side (move_at c.args.id) p).field)) a.shows.action
    ∙ sym (c.has_no_effect.ensures.stands _ _ a.shows.within) ∙ c.if-has_no_effect.false in
    drawn_goes _ _ a (drawn_if_not _ _ _ some (c.side_effect_knowing.ensures.shown since g _ a))
