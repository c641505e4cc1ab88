-- The replies to the submissions before one were written.
use Rattle.std.proofs.Common.{◌≡◌}
use Rattle.gen1_machine.specs.Room.{Course}
use Rattle.gen1_room.specs.Rooms.{Holds}
use Rattle.battle_commands.proofs.Heard.{Heard}
use Rattle.battle_commands.proofs.battles.hand_in_all.Given as goal

abbrev pub invariant-loop-submission : goal.invariant-loop-submission
invariant-loop-submission g l =
    (g.W.Sink.has_failed l.sink ≡ g.W.Sink.has_failed l.initial.sink)
    × ((c : Course) → Holds l.initial.room c → Heard c l.submissions l.submission-index l.room (g.W.Sink.contents l.initial.sink) (g.W.Sink.contents l.sink))
