use Rattle.gen1_machine.specs.Room.{after}
use Rattle.gen1_room.proofs.Ending.{counts_held}
use Rattle.gen1_room.proofs.Rooms.{advances, ends_one, ends_two, waits_one, waits_two}
use Rattle.gen1_room.proofs.submission.choose.Goals as goal

pub end_pair-requires : goal.end_pair-requires
end_pair-requires c =
    let m = c.requires.valid in
    let e = ends_one m.submission c.args.side c.args.choice c.in-Some.two c.in-One.is m.holds m.going m.missing m.made c.in-Some.is in
    record { valid = record { state = m.course.state; stands = m.holds.stands; offered = e.offered; counts = counts_held m.holds } }

pub end_pair-requires-in-Some-one : goal.end_pair-requires-in-Some-one
end_pair-requires-in-Some-one c =
    let m = c.requires.valid in
    let e = ends_two m.submission c.args.side c.in-Some-one.one c.args.choice c.in-Two.is m.holds m.going m.missing m.made c.in-Some-one.is in
    record { valid = record { state = m.course.state; stands = m.holds.stands; offered = e.offered; counts = counts_held m.holds } }

pub returns-in-Some-clause-holds : goal.returns-in-Some-clause-holds
returns-in-Some-clause-holds c course submission h going missing made =
    let e = ends_one submission c.args.side c.args.choice c.in-Some.two c.in-One.is h going missing made c.in-Some.is in
    advances e (c.end_pair.ensures.holds course h.stands h.counted h.counts e.offered)

pub returns-in-Some-clause-valid : goal.returns-in-Some-clause-valid
returns-in-Some-clause-valid c =
    let m = c.requires.valid in
    let e = ends_one m.submission c.args.side c.args.choice c.in-Some.two c.in-One.is m.holds m.going m.missing m.made c.in-Some.is in
    record { course = after m.course m.submission; holds = (advances e (c.end_pair.ensures.holds m.course m.holds.stands m.holds.counted m.holds.counts e.offered)).0 }

pub returns-in-None-clause-holds : goal.returns-in-None-clause-holds
returns-in-None-clause-holds c course submission h going missing made =
    waits_one submission c.args.side c.args.choice c.in-One.is h going missing made c.in-None.is

pub returns-in-None-clause-valid : goal.returns-in-None-clause-valid
returns-in-None-clause-valid c =
    let m = c.requires.valid in
    record {
      course = after m.course m.submission;
      holds = (waits_one m.submission c.args.side c.args.choice c.in-One.is m.holds m.going m.missing m.made c.in-None.is).0;
    }

pub returns-in-Some-one-clause-holds : goal.returns-in-Some-one-clause-holds
returns-in-Some-one-clause-holds c course submission h going missing made =
    let e = ends_two submission c.args.side c.in-Some-one.one c.args.choice c.in-Two.is h going missing made c.in-Some-one.is in
    advances e (c.end_pair-in-Some-one.ensures.holds course h.stands h.counted h.counts e.offered)

pub returns-in-Some-one-clause-valid : goal.returns-in-Some-one-clause-valid
returns-in-Some-one-clause-valid c =
    let m = c.requires.valid in
    let e = ends_two m.submission c.args.side c.in-Some-one.one c.args.choice c.in-Two.is m.holds m.going m.missing m.made c.in-Some-one.is in
    record { course = after m.course m.submission; holds = (advances e (c.end_pair-in-Some-one.ensures.holds m.course m.holds.stands m.holds.counted m.holds.counts e.offered)).0 }

pub returns-in-None-one-clause-holds : goal.returns-in-None-one-clause-holds
returns-in-None-one-clause-holds c course submission h going missing made =
    waits_two submission c.args.side c.args.choice c.in-Two.is h going missing made c.in-None-one.is

pub returns-in-None-one-clause-valid : goal.returns-in-None-one-clause-valid
returns-in-None-one-clause-valid c =
    let m = c.requires.valid in
    record {
      course = after m.course m.submission;
      holds = (waits_two m.submission c.args.side c.args.choice c.in-Two.is m.holds m.going m.missing m.made c.in-None-one.is).0;
    }
