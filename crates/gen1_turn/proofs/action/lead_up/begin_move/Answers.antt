use Rattle.std.proofs.Common.{◌≡◌}
use Rattle.gen1_layout.proofs.Words.{drawn_goes, drawn_settled, drawn_stops, false, sym, ◌∙◌}
use Rattle.gen1_machine.specs.EarlyEffects.{is_early}
use Rattle.gen1_machine.specs.Moves.{move_at}
use Rattle.gen1_hits.proofs.Planning.{unchosen-valid}
use Rattle.gen1_rolls.specs.Draws.{by_then}
use Rattle.gen1_turn.proofs.action.lead_up.begin_move.Goals as goal

pub returns-then-early_effect-clause-shown : goal.returns-then-early_effect-clause-shown
returns-then-early_effect-clause-shown t c since g p plan doing v h =
    drawn_stops _ _ (drawn_settled c.if-early_effect.true (c.early_effect.ensures.shown since g p h))

pub returns-clause-shown : goal.returns-clause-shown
returns-clause-shown t c since g p plan doing v h =
    let late : is_early (move_at c.args.id).effect ≡ false = sym c.early_effect.ensures.early ∙ c.if-early_effect.false in
    let a = drawn_settled c.if-early_effect.false (c.early_effect.ensures.shown (by_then c.prelude.ensures.steps since) g p h) in
    drawn_goes _ _ a (c.prelude.ensures.shown since g _ plan doing (unchosen-valid _ plan _ _ p late v) a)
