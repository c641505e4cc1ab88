use Rattle.gen1_layout.proofs.Words.{goes, quietly}
use Rattle.gen1_machine.specs.Action.{use_move}
use Rattle.gen1_turn.proofs.action.lead_up.use_move.Goals as goal

pub returns-clause-shown : goal.returns-clause-shown
unfolding use_move
returns-clause-shown t c g p fits h =
    let a = quietly h (c.take_up.ensures.shown _ _ p fits) in
    let b = quietly a (c.spend_pp_unless_going.ensures.shown _ g _) in
    goes _ _ a (goes _ _ b (c.note_move.ensures.shown _ _ b))
