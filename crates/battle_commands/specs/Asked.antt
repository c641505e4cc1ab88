-- What an input asks for: a battle and what is done in it, or the error that is returned instead (docs/PROGRAM.md, "What is tested,
-- in this order").
use Rattle.std.specs.Prelude.{◌≡◌, ℕ, List, Result, Ok, Err, None, Option, Some, if◌then◌else◌, length, nat_lt, ◌+◌, [], ◌∷◌, ◌++◌, codes, decimal, ◌<◌, Bool, true, false, IfSome}
use Rattle.gen1_layout.specs.Shows.{Stands}
use Rattle.battle_commands.specs.declared.fault.ToolFault.{ToolFault}
use Rattle.battle_commands.specs.declared.fault.ToolFault.TheVariants.{Read, Write, Memory, Json, TooLong, Team, Pair}
use Rattle.battle_commands.specs.declared.input.Bout.{Bout}
use Rattle.serde_json.specs.Data.{Data}
use Rattle.gen1_stats.specs.Refusals.{number_of, place_of}
use Rattle.gen1_stats.specs.Teams.{team_of, team_refusal}
use Rattle.gen1_stats.specs.declared.team.TeamRefusal.{TeamRefusal}
use Rattle.gen1_machine.specs.declared.side.Side.{Side}
use Rattle.gen1_machine.specs.State.{State, first_state}
use Rattle.battle_input.specs.Sheets.{BattleData, input_of, pair_of, sheet_of, submission_of}
use Rattle.battle_input.specs.declared.fault.JsonFault.{JsonFault}
use Rattle.battle_input.specs.declared.fault.Key.{Key}
use Rattle.battle_input.specs.declared.fault.Key.TheVariants.{Choices, Submissions}
use Rattle.battle_input.specs.declared.fault.Misfit.{Misfit}
use Rattle.gen1_machine.specs.declared.event.Event.{Event}
use Rattle.gen1_machine.specs.Lines.{lines, joined}
use Rattle.gen1_machine.specs.LogBytes.{codes_of}
use Rattle.gen1_machine.specs.Step.{Answer, Accepted, Refused}
use Rattle.gen1_engine.specs.Replay.{step_by_bytes}
use Rattle.gen1_engine.specs.Update.{refusal_number, refusal_of}
use Rattle.gen1_machine.specs.Room.{Advanced, AlreadyChosen, ChoiceNotOffered, Course, Reply, RoomOver, RoomRefusal, Stale, TurnedAway, Waiting, after as follows, reply_to, room_of}
use Rattle.gen1_room.specs.Rooms.{submission_at}
use Rattle.std.specs.Io.KnownBytes.{Appends}
use Rattle.gen1_rolls.specs.Draws.{Ref}
use Rattle.gen1_devices.specs.Output.{AppendsFront, Sends}
use Rattle.gen1_devices.specs.declared.io.DeviceFault.{DeviceFault}

-- a battle before its first update, and what is done in it
pub record Asked (A : Type 0) : Type 0 where
  pub state : State
  pub items : List A

abbrev pub begins : BattleData → State
begins battle = first_state (record { rules = battle.rules; limit = battle.limit }) (team_of battle.one) (team_of battle.two) battle.seed

-- the error of a side's team, if it is refused, in place of the request
abbrev pub unless : {T : Type 0} → ℕ → Option TeamRefusal → Result T ToolFault → Result T ToolFault
unless side (Some refusal) asked = Err (Team side (place_of refusal) (number_of refusal))
unless side None asked = asked

-- side 1's team is tested completely before side 2's
abbrev pub asked_by : {A : Type 0} → Result (BattleData × List A) JsonFault → Result (Asked A) ToolFault
asked_by (Err fault) = Err (Json fault)
asked_by (Ok sheet) = unless 1 (team_refusal sheet.0.one) (unless 2 (team_refusal sheet.0.two) (Ok (record { state = begins sheet.0; items = sheet.1 })))

abbrev pub input_limit : ℕ
input_limit = 1048576

unfoldable pub asked_of : {A : Type 0} → Key → (Data → Result A Misfit) → List ℕ → Result (Asked A) ToolFault
asked_of key meaning input = if nat_lt input_limit (length input) then Err TooLong else asked_by (input_of (sheet_of key meaning) input)

-- the request has pairs of choices, or submissions to a room

abbrev pub asked_to_run : List ℕ → Result (Asked (ℕ × ℕ)) ToolFault
asked_to_run = asked_of Choices pair_of

abbrev pub asked_of_room : List ℕ → Result (Asked (Side × ℕ × ℕ)) ToolFault
asked_of_room = asked_of Submissions submission_of

-- An error is the expected one, unless memory ran out; it is never one of a device.
abbrev pub IsAskedFault : {A : Type 0} → ToolFault → Result A ToolFault → Type 0
IsAskedFault Memory asked = Unit {0}
IsAskedFault Read asked = ⊥
IsAskedFault Write asked = ⊥
IsAskedFault fault asked = asked ≡ Err fault

-- The battle represents the requested state, with what is done in it. An error is as above, or that of a read.
abbrev pub Opens : {A : Type 0} → Result (Bout A) ToolFault → Result (Asked A) ToolFault → Type 0
Opens {A = A} (Ok bout) asked = (x : Asked A) × (asked ≡ Ok x) × Stands bout.battle x.state × (bout.items.items ≡ x.items)
Opens (Err Read) asked = Unit {0}
Opens (Err fault) asked = IsAskedFault fault asked

-- damage numbers are the requested ones
abbrev pub Finds : Result (List ℕ) ToolFault → Result (List ℕ) ToolFault → Type 0
Finds (Ok numbers) asked = asked ≡ Ok numbers
Finds (Err fault) asked = IsAskedFault fault asked

-- What an input asks for: the text to print, and the error to return after it (docs/PROGRAM.md, "run", "Output", "log").

pub record Due : Type 0 where
  pub text : List ℕ
  pub fault : Option ToolFault

abbrev pub done : Due
done = record { text = []; fault = None }

abbrev pub refused : ToolFault → Due
refused fault = record { text = []; fault = Some fault }

abbrev pub only : List ℕ → Due
only text = record { text = text; fault = None }

abbrev pub after : List ℕ → Due → Due
after text due = record { text = text ++ due.text; fault = due.fault }

-- a refused pair ends it; an accepted one has the text of its events, and then what comes after it
abbrev pub due_by : (List Event → List ℕ) → ℕ → Answer → Due → Due
due_by tell number (Refused why) rest = refused (Pair number (refusal_number (refusal_of why)))
due_by tell number (Accepted events) rest = after (tell events) rest

-- from a state and the number of a pair on: the text of the events of the machine's run, up to the first pair that it refuses
unfoldable pub due_from : (List Event → List ℕ) → ℕ → State → List (ℕ × ℕ) → Due
due_from tell number s [] = done
due_from tell number s (pair ∷ pairs) = due_by tell number (step_by_bytes s pair).answer (due_from tell (number + 1) (step_by_bytes s pair).state pairs)

-- the text and error of a request
abbrev pub due_if : {A : Type 0} → (State → List A → Due) → Result (Asked A) ToolFault → Due
due_if due (Err fault) = refused fault
due_if due (Ok asked) = due asked.state asked.items

-- the text and error of an input of `run`: lines
abbrev pub run_due : List ℕ → Due
run_due input = due_if (due_from lines 0) (asked_to_run input)

-- and for the same input of `log`: log bytes
abbrev pub log_due : List ℕ → Due
log_due input = due_if (due_from codes_of 0) (asked_to_run input)

-- What `room` prints for an input: the lines of the start, and the reply to each submission (docs/PROGRAM.md, "room").

-- the number of a refusal, and after that of a stale submission the current pair's
abbrev pub pieces_of_refusal : RoomRefusal → List (List ℕ)
pieces_of_refusal RoomOver = codes "1" ∷ []
pieces_of_refusal (Stale current) = codes "2|" ∷ decimal current ∷ []
pieces_of_refusal AlreadyChosen = codes "3" ∷ []
pieces_of_refusal ChoiceNotOffered = codes "4" ∷ []

-- a reply, with the lines of the pair that it ended
abbrev pub text_of_reply : Reply → List Event → List ℕ
text_of_reply Waiting events = codes "|room|waiting\n"
text_of_reply (Advanced outcome one two) events = codes "|room|advanced\n" ++ lines events
text_of_reply (TurnedAway why) events = joined (codes "|room|refused|" ∷ pieces_of_refusal why ++ codes "\n" ∷ [])

-- submission by submission
unfoldable pub replies_due : Course → List (Side × ℕ × ℕ) → Due
replies_due c [] = done
replies_due c (submission ∷ more) =
    let d = follows c (submission_at submission) in after (text_of_reply (reply_to c (submission_at submission)) d.events) (replies_due d more)

-- after the lines of the start, if the battle is started with its room
abbrev pub submissions_due : State → List (Side × ℕ × ℕ) → Due
submissions_due s submissions = after (lines (room_of s).events) (replies_due (room_of s) submissions)

abbrev pub room_due : List ℕ → Due
room_due input = due_if submissions_due (asked_of_room input)

-- What a run has written and returns, compared with what is expected (docs/PROGRAM.md, "Faults and statuses").

-- After an error of a device or of memory a prefix of the text is written. Any other error is the expected one, after all of the
-- text.
abbrev pub FaultAnswers : Due → Option (List ℕ) → Option (List ℕ) → ToolFault → Type 0
FaultAnswers due old new Read = AppendsFront old new due.text
FaultAnswers due old new Write = AppendsFront old new due.text
FaultAnswers due old new Memory = AppendsFront old new due.text
FaultAnswers due old new fault = (due.fault ≡ Some fault) × Appends old new due.text

abbrev pub Answers : {T : Type 0} → Due → Option (List ℕ) → Option (List ℕ) → Result T ToolFault → Type 0
Answers due old new (Ok x) = (due.fault ≡ None) × Appends old new due.text
Answers due old new (Err fault) = FaultAnswers due old new fault

-- errors of the devices

abbrev pub of_write : ToolFault → Bool
of_write Write = true
of_write _ = false

abbrev pub of_read : ToolFault → Bool
of_read Read = true
of_read _ = false

abbrev pub is_write_fault : {T : Type 0} → Result T ToolFault → Bool
is_write_fault (Ok x) = false
is_write_fault (Err fault) = of_write fault

abbrev pub is_read_fault : {T : Type 0} → Result T ToolFault → Bool
is_read_fault (Ok x) = false
is_read_fault (Err fault) = of_read fault

-- why an input wasn't read: its source failed, memory ran out, or it is too long
abbrev pub IsInputFault : ToolFault → Option (List ℕ) → Type 0
IsInputFault Read told = Unit {0}
IsInputFault Memory told = Unit {0}
IsInputFault TooLong told = IfSome told (λ input. input_limit < length input)
IsInputFault fault told = ⊥

-- what was sent to a sink in a call: the bytes that it held and holds, if it reports them, and whether a write had failed and has failed
pub record Sent : Type 0 where
  pub held : Option (List ℕ)
  pub holds : Option (List ℕ)
  pub failed : Bool
  pub fails : Bool

-- to a parameter, in the words of its type
abbrev pub sent_to : {S : Type 0} → (S → Option (List ℕ)) → (S → Bool) → Ref S → Sent
sent_to contents has_failed s = record { held = contents s.entry.now; holds = contents s.exit.now; failed = has_failed s.entry.now; fails = has_failed s.exit.now }

-- a text was sent, about which nothing is returned: all of it, or a prefix if the sink has failed
abbrev pub Tells : Sent → List ℕ → Type 0
Tells to text = (result : Result (Unit {0}) DeviceFault) × Sends to.held to.holds to.failed to.fails text result

-- nothing was sent
abbrev pub IsQuiet : Sent → Type 0
IsQuiet to = (to.holds ≡ to.held) × (to.fails ≡ to.failed)
