-- The exit status of each error, and what standard error gets of it (docs/PROGRAM.md, "Faults and statuses").
use Rattle.std.specs.Prelude.{Bool, List, Option, option_and_then, ℕ, [], codes, decimal, ◌++◌, ◌∷◌, if◌then◌else◌, ◌==◌}
use Rattle.gen1_devices.specs.Output.{device_inner}
use Rattle.battle_commands.specs.declared.input.Disk.{Disk}
use Rattle.gen1_machine.specs.Lines.{joined}
use Rattle.battle_input.specs.declared.fault.SheetFault.{SheetFault}
use Rattle.battle_input.specs.declared.fault.SheetFault.TheVariants.{Json as NoSheet, Memory as NoMemory}
use Rattle.battle_commands.specs.declared.fault.ToolFault.{ToolFault}
use Rattle.battle_commands.specs.declared.fault.ToolFault.TheVariants.{Json, TooLong, Team, Pair, Log, Calc, Read, Write, Memory}
use Rattle.battle_input.specs.Sheets.{expected_text, path_text}
use Rattle.battle_input.specs.declared.fault.JsonFault.{JsonFault}
use Rattle.battle_input.specs.declared.fault.JsonFault.TheVariants.{Text, Value}
use Rattle.battle_input.specs.declared.fault.Misfit.{Misfit}

abbrev pub disk_failed : {R F : Type 0} → Disk R F → Bool
disk_failed d = d.has_failed

-- the bytes that are left of the file that is open, if its reader reports them
abbrev pub disk_remaining : {R F : Type 0} → (F → Option (List ℕ)) → Disk R F → Option (List ℕ)
disk_remaining left d = option_and_then (λ file. left (device_inner file)) d.opened

-- why no sheet can be read
abbrev pub of_sheet : SheetFault → ToolFault
of_sheet (NoSheet fault) = Json fault
of_sheet NoMemory = Memory

abbrev pub status_of : ToolFault → ℕ
status_of (Json fault) = 1
status_of TooLong = 1
status_of (Team side place refusal) = 1
status_of (Pair number refusal) = 1
status_of (Log number) = 1
status_of Calc = 1
status_of Read = 3
status_of Write = 3
status_of Memory = 4

-- what is wrong, in words and numbers
abbrev pub pieces_of : ToolFault → List (List ℕ)
pieces_of (Json fault) = codes "json" ∷ []
pieces_of TooLong = codes "too long" ∷ []
pieces_of (Team side place refusal) = codes "team " ∷ decimal side ∷ codes " place " ∷ decimal place ∷ codes " refusal " ∷ decimal refusal ∷ []
pieces_of (Pair number refusal) = codes "pair " ∷ decimal number ∷ codes " refused " ∷ decimal refusal ∷ []
pieces_of (Log number) = codes "log " ∷ decimal number ∷ []
pieces_of Calc = codes "calc" ∷ []
pieces_of Read = codes "read" ∷ []
pieces_of Write = codes "write" ∷ []
pieces_of Memory = codes "memory" ∷ []

abbrev pub error_line : ToolFault → List ℕ
error_line fault = codes "error: " ++ joined (pieces_of fault) ++ codes "\n"

-- What is written after the line of an error, if an explanation is asked for (docs/PROGRAM.md, "Explanations").

-- the path to a value, and what is expected there
abbrev pub misfit_words : Misfit → List ℕ
misfit_words m = codes "at " ++ path_text m.path ++ codes ": expected " ++ expected_text m.expected ++ codes "\n"

-- the place of the first byte that JSON does not allow there
abbrev pub text_words : ℕ → ℕ → List ℕ
text_words line column = codes "at line " ++ decimal line ++ codes " column " ++ decimal column ++ codes ": expected JSON\n"

abbrev pub json_words : JsonFault → List ℕ
json_words (Text line column) = text_words line column
json_words (Value m) = misfit_words m

-- by the number of the refusal
abbrev pub team_words : ℕ → List ℕ
team_words n =
    if n == 1 then codes "the team has no member"
    else if n == 2 then codes "the team has more than six members"
    else if n == 3 then codes "the level is not 1 to 100"
    else if n == 4 then codes "a DV is above 15"
    else if n == 5 then codes "there is no move"
    else if n == 6 then codes "a move is left out of the engine"
    else if n == 7 then codes "Struggle can't be chosen"
    else if n == 8 then codes "a move stands twice"
    else codes "a move has more than three PP ups"

-- the member, unless the error is of the team as a whole
abbrev pub at_member : ℕ → List ℕ
at_member place = if place == 0 then [] else (codes ", member " ++ decimal place)

abbrev pub refused_words : ℕ → ℕ → ℕ → List ℕ
refused_words side place refusal = codes "team " ++ decimal side ++ at_member place ++ codes ": " ++ team_words refusal ++ codes "\n"

abbrev pub why_words : ℕ → List ℕ
why_words n =
    if n == 1 then codes "the battle is over\n"
    else if n == 2 then codes "side 1's choice is not offered\n"
    else codes "side 2's choice is not offered\n"

abbrev pub pair_words : ℕ → ℕ → List ℕ
pair_words number refusal = codes "at .choices[" ++ decimal number ++ codes "]: " ++ why_words refusal

-- by the number of the error
abbrev pub log_words : ℕ → List ℕ
log_words n =
    if n == 1 then codes "a byte in a tag's place is no tag"
    else if n == 2 then codes "a field of an event is out of its range"
    else codes "the bytes end within an event"

-- where it is and what was expected there, or why it was refused
abbrev pub explanation : ToolFault → List ℕ
explanation (Json fault) = json_words fault
explanation TooLong = codes "expected at most 1048576 bytes" ++ codes "\n"
explanation (Team side place refusal) = refused_words side place refusal
explanation (Pair number refusal) = pair_words number refusal
explanation (Log number) = log_words number ++ codes "\n"
explanation Calc = codes "at .move: expected a move with the usual damage" ++ codes "\n"
explanation Read = codes "the input could not be opened or read" ++ codes "\n"
explanation Write = codes "the output could not be written" ++ codes "\n"
explanation Memory = codes "memory was refused" ++ codes "\n"

-- the line of an error, and its explanation after it if one is asked for
abbrev pub told_of : Bool → ToolFault → List ℕ
told_of explains fault = if explains then (error_line fault ++ explanation fault) else error_line fault
