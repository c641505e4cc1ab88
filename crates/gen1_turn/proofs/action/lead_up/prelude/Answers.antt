use Rattle.std.proofs.Common.{◌≡◌}
use Rattle.gen1_layout.proofs.Words.{ap, drawn_goes, drawn_if_not, drawn_if_so, drawn_quietly, drawn_stays, false, sym, true, ◌∙◌}
use Rattle.gen1_machine.specs.Action.{prelude}
use Rattle.gen1_tables.specs.Effects.{thrashes, traps}
use Rattle.gen1_machine.specs.Moves.{move_at}
use Rattle.gen1_hits.proofs.Planning.{not-both, unchosen-valid}
use Rattle.gen1_turn.proofs.action.lead_up.prelude.Goals as goal

pub returns-then-traps-clause-shown : goal.returns-then-traps-clause-shown
unfolding prelude
returns-then-traps-clause-shown t c since g p plan doing v h =
    let on : traps (move_at c.args.id).effect ≡ true = sym (c.traps.ensures ∙ ap traps c.effect.ensures) ∙ c.if-traps.true in
    let a = drawn_if_so _ _ _ on (drawn_quietly h (c.trap_knowing.ensures.shown _ _ on since g p plan doing v)) in
    drawn_goes _ _ a (drawn_if_not _ _ _ (not-both _ on) (drawn_stays a))

pub returns-then-thrashes-clause-shown : goal.returns-then-thrashes-clause-shown
unfolding prelude
returns-then-thrashes-clause-shown t c since g p plan doing v h =
    let off : traps (move_at c.args.id).effect ≡ false = sym (c.traps.ensures ∙ ap traps c.effect.ensures) ∙ c.if-traps.false in
    let on = sym (c.thrashes.ensures ∙ ap thrashes c.effect-2.ensures) ∙ c.if-thrashes.true in
    let a = drawn_if_not _ _ _ off (drawn_stays h) in
    drawn_goes _ _ a (drawn_if_so _ _ _ on (c.thrash_knowing.ensures.shown since g _ plan doing (unchosen-valid _ plan _ _ p off v) a))

pub returns-else-thrashes-clause-shown : goal.returns-else-thrashes-clause-shown
unfolding prelude
returns-else-thrashes-clause-shown t c since g p plan doing v h =
    let off : traps (move_at c.args.id).effect ≡ false = sym (c.traps.ensures ∙ ap traps c.effect.ensures) ∙ c.if-traps.false in
    let calm = sym (c.thrashes.ensures ∙ ap thrashes c.effect-2.ensures) ∙ c.if-thrashes.false in
    let a = drawn_if_not _ _ _ off (drawn_stays h) in
    drawn_goes _ _ a (drawn_if_not _ _ _ calm (drawn_stays a))
