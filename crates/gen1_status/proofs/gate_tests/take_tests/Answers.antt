use Rattle.gen1_layout.proofs.Words.{refl, settled}
use Rattle.gen1_machine.specs.Gate.{gate, gate_of_status, gate_of_turn}
use Rattle.gen1_machine.proofs.Steady.{gate_of_status-steady, gate_of_turn-steady}
use Rattle.gen1_status.specs.declared.gate_answer.Gate.TheVariants.{Go, Stop}
use Rattle.gen1_status.proofs.Told.{outcome-steady, still_tells, tells, tells_goes, tells_stops}
use Rattle.gen1_status.proofs.gate_tests.take_tests.Goals as goal

pub returns-then-gate_of_status-clause-shown : goal.returns-then-gate_of_status-clause-shown
unfolding gate
returns-then-gate_of_status-clause-shown t c since g p h =
    tells_stops _ _ refl (still_tells h (tells Stop (gate_of_status c.args.side) refl (gate_of_status-steady (outcome-steady _) c.args.side)
    (settled c.if-gate_of_status.true (c.gate_of_status.ensures.shown _ _ h.shows))))

pub returns-then-gate_of_turn-clause-shown : goal.returns-then-gate_of_turn-clause-shown
unfolding gate
returns-then-gate_of_turn-clause-shown t c since g p h =
    let a = still_tells h (tells Go (gate_of_status c.args.side) refl (gate_of_status-steady (outcome-steady _) c.args.side)
    (settled c.if-gate_of_status.false (c.gate_of_status.ensures.shown _ _ h.shows))) in
    tells_goes _ _ a (tells_stops _ _ refl (still_tells a.shows (tells Stop (gate_of_turn c.args.side) refl (gate_of_turn-steady (outcome-steady _) c.args.side)
    (settled c.if-gate_of_turn.true (c.gate_of_turn.ensures.shown _ _ a.shows.shows)))))

pub returns-clause-shown : goal.returns-clause-shown
unfolding gate
returns-clause-shown t c since g p h =
    let a = still_tells h (tells Go (gate_of_status c.args.side) refl (gate_of_status-steady (outcome-steady _) c.args.side)
    (settled c.if-gate_of_status.false (c.gate_of_status.ensures.shown _ _ h.shows))) in
    let b = still_tells a.shows (tells Go (gate_of_turn c.args.side) refl (gate_of_turn-steady (outcome-steady _) c.args.side)
    (settled c.if-gate_of_turn.false (c.gate_of_turn.ensures.shown _ _ a.shows.shows))) in
    tells_goes _ _ a (tells_goes _ _ b (c.gate_of_move.ensures.shown since _ _ b.shows))
