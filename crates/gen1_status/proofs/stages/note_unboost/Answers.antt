use Rattle.gen1_layout.proofs.Words.{if_not, if_so, noted, refl, stays, sym, ◌∙◌}
use Rattle.gen1_machine.specs.StageShift.{note_unboost}
use Rattle.gen1_status.proofs.Statuses.{moved, not_moved}
use Rattle.gen1_status.proofs.stages.note_unboost.Goals as goal

pub returns-in-Some-clause-shown : goal.returns-in-Some-clause-shown
unfolding note_unboost
returns-in-Some-clause-shown t c few g p h =
    let m = moved c.args.stages c.in-Some.count c.in-Some.ensures in
    if_so _ _ _ m.0 (noted h _ c.push.ensures.told (rw (c.who.ensures.stands _ _ h.within, m.1) refl))

pub returns-in_default-clause-shown : goal.returns-in_default-clause-shown
unfolding note_unboost
returns-in_default-clause-shown t c few g p h = if_not _ _ _ (not_moved c.args.stages few (sym c.in_default.is ∙ c.new.ensures)) (stays h)
