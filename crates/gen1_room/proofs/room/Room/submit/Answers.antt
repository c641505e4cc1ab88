use Rattle.std.proofs.Common.{subst, sym}
use Rattle.gen1_room.specs.declared.submission.Held.{Held}
use Rattle.gen1_room.specs.Rooms.{Holds}
use Rattle.gen1_room.proofs.room.Room.submit.Goals as goal

pub returns-clause-holds : goal.returns-clause-holds
returns-clause-holds c course h = c.submit.ensures.holds course (subst (λ (r : Held). Holds r course) (sym c.self.view_is) h)
