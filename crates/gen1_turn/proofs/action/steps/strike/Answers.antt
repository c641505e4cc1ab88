use Rattle.gen1_layout.proofs.Words.{Action, ap, drawn_goes, drawn_if_not, drawn_if_so, drawn_stays, drawn_stops, ◌∙◌}
use Rattle.gen1_machine.specs.Action.{strike}
use Rattle.gen1_hits.proofs.Knowledge.{plain_still}
use Rattle.gen1_turn.proofs.action.steps.strike.Goals as goal

pub returns-then-known-clause-shown : goal.returns-then-known-clause-shown
unfolding strike
returns-then-known-clause-shown t c since g p h =
    drawn_stops _ _ (drawn_if_so _ _ _ (ap (λ (a : Action). a.missed) h.shows.action ∙ c.if-known.true) (plain_still c.args.known.now g _ c.missed_move.ensures.shown h))

pub returns-clause-shown : goal.returns-clause-shown
unfolding strike
returns-clause-shown t c since g p h =
    let a = drawn_if_not _ _ _ (ap (λ (a : Action). a.missed) h.shows.action ∙ c.if-known.false) (drawn_stays h) in
    drawn_goes _ _ a (c.hits_with_effect.ensures.shown since g _ a)
