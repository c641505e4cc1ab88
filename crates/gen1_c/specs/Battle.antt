-- Why two teams make no battle, and what loading bytes does (include/gen1.h, "beginning").
use Rattle.std.specs.Prelude.{Err, List, Ok, Result, if◌then◌else◌, nat_le, ℕ, ◌&&◌, ◌+◌, ◌==◌, ◌≡◌, length, map, ◌%◌, ◌*◌, ◌/◌, ◌≢◌, ◌≤◌, None, Option, Some, codes, ◌++◌, ◌∷◌}
use Rattle.gen1_layout.specs.Parts.{Parts}
use Rattle.gen1_layout.specs.Loading.{IsLoadedAs}
use Rattle.gen1_layout.specs.declared.loading.LoadFault.{LoadFault}
use Rattle.gen1_c.specs.Codes.{load_code, refusal_code, over_front}
use Rattle.gen1_c.specs.Teams.{team_fault}
use Rattle.gen1_c.specs.declared.teams.TeamForm.{TeamForm}
use Rattle.gen1_machine.specs.declared.side.Choice.{Choice}
use Rattle.gen1_machine.specs.declared.event.Event.{Event}
use Rattle.gen1_machine.specs.declared.side.Side.{Side}
use Rattle.gen1_machine.specs.Choices.{byte_of_choice}
use Rattle.gen1_machine.specs.Layout.{outcome_byte, request_byte}
use Rattle.gen1_machine.specs.Numbers.{side_number}
use Rattle.gen1_machine.specs.State.{Field, State, known_in, member_at, member_in, party}
use Rattle.gen1_machine.specs.Step.{Accepted, Answer, Refused}
use Rattle.gen1_events.specs.declared.front.Front.{Front}
use Rattle.gen1_events.specs.Reader.{IsReading}
use Rattle.gen1_layout.specs.Shows.{Stands}
use Rattle.gen1_engine.specs.Replay.{step_by_bytes}
use Rattle.gen1_engine.specs.Update.{refusal_of}
use Rattle.gen1_tables.specs.Names.{move_name, species_name}
use Rattle.gen1_machine.specs.declared.side.Choice.TheVariants.{Move, Pass, Switch}
use Rattle.gen1_words.specs.ChoiceWords.{choice_due}
use Rattle.gen1_words.specs.declared.words.WordsFault.{WordsFault}
use Rattle.gen1_words.specs.declared.words.WordsFault.TheVariants.{Ambiguous, NotOffered, Unknown}
use Rattle.gen1_states.specs.declared.fault.StateFault.{StateFault}
use Rattle.gen1_states.specs.Plain.{field_number}
use Rattle.gen1_c.specs.declared.battle.StateFaultForm.{StateFaultForm}

-- the error of a team, plus 65,536 times its side
abbrev pub teams_fault : ℕ → ℕ → ℕ
teams_fault one two = if one == 0 then (if two == 0 then 0 else 131072 + two) else 65536 + one

-- the first error of: the rules, the limit, side 1's team, side 2's team
abbrev pub new_fault : TeamForm → TeamForm → ℕ → ℕ → ℕ
new_fault one two rules limit =
    if nat_le rules 3
    then (if nat_le 1 limit && nat_le limit 9999 then teams_fault (team_fault one) (team_fault two) else 13)
    else 12

-- the bytes are loaded; or the code is the first test that they fail, and the battle is as it was
abbrev pub LoadsAs : Result Parts LoadFault → Parts → Parts → ℕ → Type 0
LoadsAs (Ok loaded) old new code = (code ≡ 0) × (new ≡ loaded)
LoadsAs (Err fault) old new code = (code ≡ load_code fault) × (new ≡ old)

abbrev pub Loads : List ℕ → Parts → Parts → ℕ → Type 0
Loads bytes old new code = (read : Result Parts LoadFault) × IsLoadedAs read bytes × LoadsAs read old new code

-- What is offered, what an update returns and leaves, and the result of a battle (include/gen1.h, "playing").

abbrev pub IsNoSide : ℕ → Type 0
IsNoSide number = (side : Side) → number ≢ side_number side

-- the bytes of these choices are at the beginning, and their number is returned
abbrev pub Offers : List Choice → List ℕ → List ℕ → ℕ → Type 0
Offers choices old new count = (count ≡ length choices) × (new ≡ over_front (map byte_of_choice choices) old)

-- the log of the events is at the beginning of the buffer, and its length is written
abbrev pub Logs : List Event → List ℕ → List ℕ → ℕ → Type 0
Logs events old new count = (log : List ℕ) × IsReading log events × (new ≡ over_front log old) × (count ≡ length log)

-- the memory of an update: the battle, the buffer for the log, and the log's length
pub record Held : Type 0 where
  pub battle : Parts
  pub log : List ℕ
  pub count : ℕ

-- after a refused pair its code is returned, and nothing has changed; after an accepted one the bytes represent the next state
abbrev pub UpdatesAs : Answer → State → Held → Held → ℕ → Type 0
UpdatesAs (Refused why) next old new code = (code ≡ refusal_code (refusal_of why)) × (new ≡ old)
UpdatesAs (Accepted events) next old new code = (code ≡ 0) × Stands new.battle next × Logs events old.log new.log new.count

-- the same without a log
abbrev pub AnsweredAs : Answer → State → Parts → Parts → ℕ → Type 0
AnsweredAs (Refused why) next old new code = (code ≡ refusal_code (refusal_of why)) × (new ≡ old)
AnsweredAs (Accepted events) next old new code = (code ≡ 0) × Stands new next

abbrev pub Updates : State → ℕ × ℕ → Held → Held → ℕ → Type 0
Updates s bytes = UpdatesAs (step_by_bytes s bytes).answer (step_by_bytes s bytes).state

-- the outcome and the requests of both sides, as one number
abbrev pub result_byte : Field → ℕ
result_byte f = outcome_byte f.outcome + 8 * request_byte f.request_one + 32 * request_byte f.request_two

-- such a number for any outcome and requests
abbrev pub IsResult : ℕ → Type 0
IsResult byte = (byte % 8 ≤ 5) × (byte / 8 % 4 ≤ 2) × (byte / 32 ≤ 2)

-- an empty writer in the memory of this name, which holds these bytes
abbrev pub IsNewIn : {T : Type 0} → ℕ → List ℕ → Front T → Type 0
IsNewIn name before front = (front.memory.ghost_name ≡ name) × (front.memory.now ≡ before) × (front.length ≡ 0)

-- Choices as bytes, taken apart and in words (include/gen1.h, "looking"; docs/MECHANICS.md, "Offered choices").

abbrev pub kind_of_choice : Option Choice → ℕ
kind_of_choice None = 0
kind_of_choice (Some Pass) = 1
kind_of_choice (Some (Move slot)) = 2
kind_of_choice (Some (Switch place)) = 3

abbrev pub slot_of_choice : Option Choice → ℕ
slot_of_choice None = 0
slot_of_choice (Some Pass) = 0
slot_of_choice (Some (Move slot)) = slot
slot_of_choice (Some (Switch place)) = place

-- a word, a digit and a name; the code 44 if the number has no name
abbrev pub named : List ℕ → ℕ → ℕ → ℕ → List ℕ → Result (List ℕ) ℕ
named word digit last number name =
    if nat_le 1 number && nat_le number last then Ok ((word ++ ((48 + digit) ∷ codes " ")) ++ name) else Err 44

-- before the first update no member is out, so none has moves
abbrev pub move_words : Side → ℕ → Field → Result (List ℕ) ℕ
move_words side slot f =
    if slot == 0 then Ok (codes "move 0")
    else (if f.turn == 0 then Err 44
    else named (codes "move ") slot 165 (known_in slot (member_in side f).moves).id (move_name (known_in slot (member_in side f).moves).id))

abbrev pub switch_words : Side → ℕ → Field → Result (List ℕ) ℕ
switch_words side place f =
    named (codes "switch ") place 151 (member_at place (party side f)).species (species_name (member_at place (party side f)).species)

abbrev pub words_due : Side → Option Choice → Field → Result (List ℕ) ℕ
words_due side None f = Err 43
words_due side (Some Pass) f = Ok (codes "pass")
words_due side (Some (Move slot)) f = move_words side slot f
words_due side (Some (Switch place)) f = switch_words side place f

-- these bytes are at the beginning of others, whose rest is as it was
abbrev pub IsWritten : List ℕ → List ℕ → List ℕ → ℕ → Type 0
IsWritten done base now count = (count ≡ length done) × (now ≡ over_front done base)

-- Words back to choices

abbrev pub words_code : WordsFault → ℕ
words_code Unknown = 58
words_code NotOffered = 54
words_code Ambiguous = 59

abbrev pub byte_found : Result Choice WordsFault → Result ℕ ℕ
byte_found (Ok choice) = Ok (byte_of_choice choice)
byte_found (Err why) = Err (words_code why)

-- the byte of the choice that a text says
abbrev pub byte_read : Side → Field → List ℕ → Result ℕ ℕ
byte_read side f text = byte_found (choice_due side f text)

-- The field of a state that is wrong, as plain numbers (include/gen1.h, "looking").

abbrev pub fault_form : StateFault → StateFaultForm
fault_form f = record {
  value = f.value;
  low = f.low;
  high = f.high;
  field = field_number f.field;
  side = f.side;
  place = f.place;
  index = f.index;
}
