use Rattle.gen1_room.proofs.Ending.{begin_holds, begin_valid}
use Rattle.gen1_room.proofs.submission.begin.Goals as goal

pub returns-clause-holds : goal.returns-clause-holds
returns-clause-holds c s h =
    begin_holds s c.start.new.battle c.start.new.events c.start.new.log c.result-result.result c.choice_if_none_is_asked.result c.choice_if_none_is_asked-2.result (c.start.ensures.opens s h) c.result-result.ensures.stands c.choice_if_none_is_asked.ensures c.choice_if_none_is_asked-2.ensures

pub returns-clause-valid : goal.returns-clause-valid
returns-clause-valid c =
    let m = c.start.ensures.valid in
    begin_valid m.state c.start.new.battle c.start.new.events c.start.new.log c.result-result.result c.choice_if_none_is_asked.result c.choice_if_none_is_asked-2.result (c.start.ensures.opens m.state m.stands) c.result-result.ensures.stands c.choice_if_none_is_asked.ensures c.choice_if_none_is_asked-2.ensures
