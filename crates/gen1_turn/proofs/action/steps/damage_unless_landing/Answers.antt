use Rattle.std.proofs.Common.{◌&&◌, ◌||◌}
use Rattle.gen1_layout.proofs.Words.{Action, ap, choose-false, drawn_if_so, drawn_stays, inl, refl, stay, subst, sym, ◌∙◌}
use Rattle.gen1_tables.specs.declared.effect.Effect.{Effect}
use Rattle.gen1_tables.specs.Effects.{traps}
use Rattle.gen1_machine.specs.Action.{damage_of, lands_at_once}
use Rattle.gen1_machine.specs.Moves.{move_at}
use Rattle.gen1_turn.specs.Action.{LikeUsual}
use Rattle.gen1_turn.proofs.action.steps.damage_unless_landing.Goals as goal

pub returns-then-lands_at_once-clause-shown : goal.returns-then-lands_at_once-clause-shown
returns-then-lands_at_once-clause-shown t c events since g p h =
    let at = c.lands_at_once.ensures ∙ ap (λ (e : Effect). c.args.known.now.letting_go || (c.args.known.now.going_on && traps e)) c.effect.ensures in
    let is = ap (λ (a : Action). a.letting_go || (a.going_on && traps (move_at c.args.id).effect)) h.shows.action ∙ sym at ∙ c.if-lands_at_once.true in
    (_, drawn_if_so _ stay _ is (drawn_stays h), (inl refl, λ late. refl))

pub returns-clause-shown : goal.returns-clause-shown
returns-clause-shown t c events since g p h =
    let at = c.lands_at_once.ensures ∙ ap (λ (e : Effect). c.args.known.now.letting_go || (c.args.known.now.going_on && traps e)) c.effect.ensures in
    let is = ap (λ (a : Action). a.letting_go || (a.going_on && traps (move_at c.args.id).effect)) h.shows.action ∙ sym at ∙ c.if-lands_at_once.false in
    let move = move_at c.args.id in
    let d = c.damage_of.ensures.shown events since g p h in
    (d.0, d.1, subst (LikeUsual c.args.side move d.0) (sym (choose-false (lands_at_once move) stay (damage_of c.args.side move move.effect) p is)) d.2)
