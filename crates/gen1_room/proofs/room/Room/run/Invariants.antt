-- The submissions so far have their replies.
use Rattle.std.proofs.Common.{map, take, ◌≡◌}
use Rattle.gen1_machine.specs.Room.{course_of, replies_of, room_of}
use Rattle.gen1_machine.specs.State.{State}
use Rattle.gen1_layout.specs.Shows.{Stands}
use Rattle.gen1_room.specs.Rooms.{Holds, reply_of, submission_at}
use Rattle.gen1_room.proofs.room.Room.run.Given as goal

abbrev pub invariant-loop-place : goal.invariant-loop-place
invariant-loop-place l =
    (s : State) → Stands l.fn.battle s
    → Holds l.room (course_of (room_of s) (map submission_at (take l.place l.submissions)))
    × (map reply_of (take l.place l.replies) ≡ replies_of (room_of s) (map submission_at (take l.place l.submissions)))
