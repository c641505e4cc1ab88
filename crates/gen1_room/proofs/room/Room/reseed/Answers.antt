use Rattle.std.proofs.Common.{subst, sym}
use Rattle.gen1_room.specs.declared.submission.Held.{Held}
use Rattle.gen1_room.proofs.Ending.{holds_numbers}
use Rattle.gen1_room.specs.Rooms.{Holds, reseeded_in}
use Rattle.gen1_room.proofs.room.Room.reseed.Goals as goal

pub invariant_of-self : goal.invariant_of-self
invariant_of-self c =
    let room = c.self.invariant in
    record {
      course = reseeded_in c.args.numbers.now room.course;
      holds = holds_numbers c.args.numbers.now (c.reseed.ensures room.course.state room.holds.stands) room.holds;
    }

pub returns : goal.returns
returns c course h =
    let held = subst (λ (r : Held). Holds r course) (sym c.self.view_is) h in
    holds_numbers c.args.numbers.now (c.reseed.ensures course.state held.stands) held
