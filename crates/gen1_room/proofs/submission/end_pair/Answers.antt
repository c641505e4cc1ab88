use Rattle.std.proofs.Common.{arith}
use Rattle.gen1_room.proofs.Ending.{number_fits, end_holds, not_refused}
use Rattle.gen1_room.proofs.submission.end_pair.Goals as goal

pub overflow_add-held : goal.overflow_add-held
overflow_add-held c = let m = c.requires.valid in let most = number_fits m.stands m.counts in omega (arith, most)

pub returns-clause-holds : goal.returns-clause-holds
returns-clause-holds c course stands counted counts offered =
    end_holds course c.args.one c.args.two c.args.held.now.number c.choice_if_none_is_asked-held.result c.choice_if_none_is_asked-held-in-Ok.result
    c.args.held.now.battle c.update_events.new.self c.args.held.now.events c.update_events.new.events c.write_log.new.log c.in-Ok.result stands counted counts offered
    (c.in-Ok.ensures.answers course.state stands) (c.in-Ok.ensures.tells course.state stands) c.write_log.ensures
    c.choice_if_none_is_asked-held.ensures c.choice_if_none_is_asked-held-in-Ok.ensures

pub unreachable-requires : goal.unreachable-requires
unreachable-requires c =
    let m = c.requires.valid in
    not_refused m.state c.args.one c.args.two c.args.held.now.battle c.update_events.new.self c.in-Err.field-0 m.offered (c.in-Err.ensures.answers m.state m.stands)
