use Rattle.gen1_layout.proofs.Words.{Action, acted, seeing}
use Rattle.gen1_machine.specs.Action.{see_if_going_on, set_going_on}
use Rattle.gen1_turn.proofs.action.lead_up.see_if_going_on.Goals as goal

pub returns-clause-shown : goal.returns-clause-shown
unfolding see_if_going_on set_going_on
returns-clause-shown c events g p h = seeing _ set_going_on (c.goes_on-known.ensures.stands _ _ h.within) (acted (λ (a : Action). record a { going_on = c.goes_on-known.result }) h)
