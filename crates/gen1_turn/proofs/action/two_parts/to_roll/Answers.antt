use Rattle.gen1_layout.proofs.Words.{Progress, ap, quietly, refl, still}
use Rattle.gen1_machine.specs.Action.{keep_accuracy, resume}
use Rattle.gen1_turn.proofs.action.two_parts.to_roll.Goals as goal

pub returns-in-Ended-clause-shown : goal.returns-in-Ended-clause-shown
returns-in-Ended-clause-shown t c since g p begun plan begins v quiet h =
    let b = rw c.in-Ended.is at (c.parts_to_roll.ensures.shown since g p begun plan begins v quiet h) in
    (b.0, still b.1 (quietly b.1.shows (c.end_action.ensures.shown _ _ _ _ refl)))

pub returns-in-Rolls-clause-shown : goal.returns-in-Rolls-clause-shown
returns-in-Rolls-clause-shown t c since g p begun plan begins v quiet h =
    let b = rw c.in-Rolls.is at (c.parts_to_roll.ensures.shown since g p begun plan begins v quiet h) in
    record { here = b.here; shows = b.shows; rolling = b.rolling; left = ap (λ (x : Progress). resume (keep_accuracy c.args.side x)) b.left }
