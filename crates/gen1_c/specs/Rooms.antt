-- What a room replies, as a code (include/gen1.h, "rooms").
use Rattle.std.specs.Prelude.{Bool, false, true, ℕ, ◌≡◌}
use Rattle.gen1_machine.specs.declared.side.Side.{Side}
use Rattle.gen1_machine.specs.Layout.{outcome_byte}
use Rattle.gen1_machine.specs.Room.{Advanced, AlreadyChosen, ChoiceNotOffered, Course, Reply, RoomOver, RoomRefusal, Stale, TurnedAway, Waiting}
use Rattle.gen1_room.specs.Forfeits.{Forfeited, lost_by}
use Rattle.gen1_room.specs.declared.plain.PlainRoom.{PlainRoom}

-- the codes of the refusals
abbrev pub why_code : RoomRefusal → ℕ
why_code RoomOver = 24
why_code (Stale current) = 52
why_code AlreadyChosen = 53
why_code ChoiceNotOffered = 54

-- 0 for a choice that the room takes, whether it ends the pair or not; otherwise the code of the refusal
abbrev pub reply_code : Reply → ℕ
reply_code Waiting = 0
reply_code (Advanced outcome one two) = 0
reply_code (TurnedAway why) = why_code why

-- what a forfeit makes of a room, by whether its battle is over, and the code that it returns
abbrev pub ForfeitsAs : Bool → Course → Side → PlainRoom → ℕ → Type 0
ForfeitsAs true c side new code = code ≡ why_code RoomOver
ForfeitsAs false c side new code = (code ≡ 0) × Forfeited new c side

-- the result of a room that this side has forfeited: the other side's win, and no requests
abbrev pub lost_byte : Side → ℕ
lost_byte side = outcome_byte (lost_by side).outcome
