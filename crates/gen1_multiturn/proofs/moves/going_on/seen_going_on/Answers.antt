use Rattle.gen1_layout.proofs.Words.{Action, acted, seeing}
use Rattle.gen1_machine.specs.Action.{see_if_going_on, set_going_on}
use Rattle.gen1_multiturn.proofs.moves.going_on.seen_going_on.Goals as goal

pub returns : goal.returns
unfolding see_if_going_on set_going_on
returns c = record {
  shown = λ events g p h.
      rw (c.begun.ensures, c.new.ensures)
      (seeing _ set_going_on (c.keeps_going.ensures.stands _ _ h.within) (acted (λ (a : Action). record a { going_on = c.keeps_going.result }) h));
}
