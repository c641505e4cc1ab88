use Rattle.gen1_layout.proofs.Words.{drawn_goes, drawn_if_not, drawn_if_so, drawn_stays, drawn_stops, stay, still, sym, ◌∙◌}
use Rattle.gen1_machine.specs.Progress.{fail, fails_if}
use Rattle.gen1_machine.specs.Ruling.{has_marked_sleeper, sleep_only_one}
use Rattle.gen1_effects.proofs.late_effects.sleep_only_one.Goals as goal

pub returns-then-has_marked_sleeper-clause-shown : goal.returns-then-has_marked_sleeper-clause-shown
unfolding sleep_only_one fails_if
returns-then-has_marked_sleeper-clause-shown t c since g p clause h =
    let some = sym (c.has_marked_sleeper.ensures.stands _ p.field h.shows.within) ∙ c.if-has_marked_sleeper.true in
    rw (← c.other-foe.ensures) (drawn_stops _ _ (drawn_if_so _ _ _ some (still {g' = g} h (c.fail.ensures.shown _ _ h.shows))))

pub returns-clause-shown : goal.returns-clause-shown
unfolding sleep_only_one fails_if
returns-clause-shown t c since g p clause h =
    let none = sym (c.has_marked_sleeper.ensures.stands _ p.field h.shows.within) ∙ c.if-has_marked_sleeper.false in
    let a = drawn_if_not (has_marked_sleeper c.other-foe.result) (fail c.args.side) stay none (drawn_stays h) in
    rw (← c.other-foe.ensures) (drawn_goes _ _ a (c.fall_asleep.ensures.shown since g _ clause a))
