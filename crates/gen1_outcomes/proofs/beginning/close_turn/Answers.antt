use Rattle.std.proofs.Common.{refl}
use Rattle.gen1_layout.proofs.Words.{Progress, false, quietly}
use Rattle.gen1_machine.specs.Step.{close_update}
use Rattle.gen1_machine.specs.Turn.{end_turn}
use Rattle.gen1_switching.proofs.Stepped.{reopened}
use Rattle.gen1_turn.proofs.Turns.{ended_uncut}
use Rattle.gen1_outcomes.proofs.beginning.close_turn.Goals as goal

pub returns-then-falls-clause-cut : goal.returns-then-falls-clause-cut
unfolding close_update
returns-then-falls-clause-cut c fell g p stopped acted h = c.close.ensures.shown g (record p { stopped = false }) acted (reopened h)

pub returns-clause-whole : goal.returns-clause-whole
unfolding close_update
returns-clause-whole c kept g p uncut h =
    let q : Progress = end_turn p in
    let a = quietly h (c.end_turn.ensures.shown _ g p) in
    c.close_uncut.ensures.shown g (record q { stopped = false }) (ended_uncut q p refl h.ends uncut) (reopened a)
