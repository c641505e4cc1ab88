-- Forfeits (docs/MECHANICS.md, "Rooms").
use Rattle.std.specs.Prelude.{Bool, Err, Ok, Result, Some, [], false, take, true, ◌+◌, ◌≡◌, ◌∷◌}
use Rattle.gen1_machine.specs.declared.side.Choice.TheVariants.{Pass}
use Rattle.gen1_machine.specs.declared.event.Event.TheVariants.{Win}
use Rattle.gen1_machine.specs.declared.side.Side.{Side}
use Rattle.gen1_machine.specs.declared.side.Side.TheVariants.{One, Two}
use Rattle.gen1_machine.specs.declared.terms.Outcome.{Outcome}
use Rattle.gen1_machine.specs.declared.terms.Outcome.TheVariants.{WinOne, WinTwo}
use Rattle.gen1_machine.specs.declared.terms.Request.TheVariants as requests
use Rattle.gen1_machine.specs.Choices.{choice_at}
use Rattle.gen1_machine.specs.Numbers.{side_number}
use Rattle.gen1_machine.specs.Room.{Course}
use Rattle.gen1_machine.specs.Sides.{other}
use Rattle.gen1_events.specs.Reader.{IsReading}
use Rattle.gen1_layout.specs.Shows.{Stands}
use Rattle.gen1_engine.specs.declared.result.BattleResult.{BattleResult}
use Rattle.gen1_room.specs.declared.plain.PlainRoom.{PlainRoom}
use Rattle.gen1_room.specs.declared.submission.RoomRefusal.{RoomRefusal}
use Rattle.gen1_room.specs.declared.submission.RoomRefusal.TheVariants.{Over}

abbrev pub won_by : Side → Outcome
won_by One = WinOne
won_by Two = WinTwo

-- how a room that this side has forfeited ends: the other side wins, and nothing is asked
abbrev pub lost_by : Side → BattleResult
lost_by side = record { outcome = won_by (other side); request_one = requests.Pass; request_two = requests.Pass }

-- A side has forfeited a course. Its pair has ended, and its log is the other side's win; as after each battle that is over, both
-- choices are passes. The battle is as it was, since in a battle that is won all members of the loser have fallen.
pub record Forfeited (r : PlainRoom) (c : Course) (side : Side) : Type 0 where
  pub stands : Stands r.battle c.state
  pub counted : r.number ≡ c.number + 1
  pub logged : IsReading (take r.log_length r.log) (Win (other side) ∷ [])
  pub one : choice_at r.one ≡ Some Pass
  pub two : choice_at r.two ≡ Some Pass
  pub told : r.forfeit ≡ side_number side

-- the room after a forfeit, by whether its battle is over, and what the forfeit returns
abbrev pub ForfeitsAs : Bool → Course → Side → PlainRoom → Result BattleResult RoomRefusal → Type 0
ForfeitsAs true c side new result = result ≡ Err Over
ForfeitsAs false c side new result = (result ≡ Ok (lost_by side)) × Forfeited new c side
