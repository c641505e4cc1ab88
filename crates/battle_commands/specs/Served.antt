-- What the program has written and returns for a subcommand and its input (docs/PROGRAM.md, "The program battle_tool").
use Rattle.std.specs.Prelude.{◌≡◌, ℕ, ◌<◌, ◌≤◌, List, [], length, Option, Result, Ok, Err, Bool, IfSome, None, Some, codes, false, true, ◌⊎◌, ⊤, ◌≢◌, ◌∷◌}
use Rattle.std.specs.Io.KnownBytes.{Appends}
use Rattle.gen1_machine.specs.Lines.{lines}
use Rattle.gen1_devices.specs.Output.{AppendsFront, Sends}
use Rattle.gen1_machine.specs.declared.event.Event.{Event}
use Rattle.gen1_events.specs.Faults.{number_of}
use Rattle.gen1_events.specs.Reader.{IsReading}
use Rattle.gen1_events.specs.declared.reader.LogFault.{LogFault}
use Rattle.gen1_printer.specs.Prints.{IsFaulty}
use Rattle.battle_commands.specs.Asked.{input_limit, Answers, IsQuiet, Sent, Tells, log_due, run_due, room_due}
use Rattle.battle_commands.specs.declared.fault.ToolFault.{ToolFault}
use Rattle.battle_commands.specs.declared.fault.ToolFault.TheVariants.{TooLong, Log, Read, Write, Memory}
use Rattle.clap.specs.Matches.{first_value, found_of, one_text}
use Rattle.clap.specs.Walk.{Row, rows_of}
use Rattle.clap.specs.declared.parser.matches.ArgMatches.{ArgMatches}
use Rattle.battle_commands.specs.Calc.{PrintsDamages, damages_due}
use Rattle.battle_commands.specs.Faults.{told_of, error_line, status_of}
use Rattle.clap.specs.Words.{IsAmong, Kinds}
use Rattle.clap.specs.declared.error.kind.ErrorKind.{ErrorKind}
use Rattle.clap.specs.declared.error.kind.ErrorKind.TheVariants.{DisplayHelp, DisplayVersion}
use Rattle.gen1_devices.specs.declared.io.DeviceFault.{DeviceFault}

-- What `print` has written and returns for the bytes of a log (docs/PROGRAM.md, "print").

-- The lines of the log's events are written, or a prefix of them if a write fails. Nothing is written if the log has an error, the
-- input is too long, a read fails, or memory runs out.
abbrev pub PrintsLog : {T : Type 0} → List ℕ → Option (List ℕ) → Option (List ℕ) → Result T ToolFault → Type 0
PrintsLog log old new (Ok done) = (events : List Event) × (length log ≤ input_limit) × IsReading log events × Appends old new (lines events)
PrintsLog log old new (Err Write) = (events : List Event) × (length log ≤ input_limit) × IsReading log events × AppendsFront old new (lines events)
PrintsLog log old new (Err (Log number)) =
    (fault : LogFault) × (length log ≤ input_limit) × IsFaulty log fault × (number ≡ number_of fault) × Appends old new []
PrintsLog log old new (Err TooLong) = (input_limit < length log) × Appends old new []
PrintsLog log old new (Err Read) = Appends old new []
PrintsLog log old new (Err Memory) = Appends old new []
PrintsLog log old new (Err fault) = ⊥

-- the bytes of a subcommand's input, if they are known: those of the FILE that is named, or else those of standard input
abbrev pub given : (List ℕ → Option (List ℕ)) → Option (List ℕ) → Option (List ℕ) → Option (List ℕ)
given named standard None = standard
given named standard (Some file) = named file

-- what a subcommand prints and returns for an input is what its name asks for
pub record Serves (name input : List ℕ) (old new : Option (List ℕ)) (result : Result (Unit {0}) ToolFault) : Type 0 where
  pub print : name ≡ codes "print" → PrintsLog input old new result
  pub calc : name ≡ codes "calc" → PrintsDamages (damages_due input) old new result
  pub room : name ≡ codes "room" → Answers (room_due input) old new result
  pub log : name ≡ codes "log" → Answers (log_due input) old new result
  pub run : name ≡ codes "run" → Answers (run_due input) old new result

-- nothing is reported if all was done, and otherwise the line of the error, with its explanation if one is asked for
abbrev pub TellsEnd : Bool → Sent → Result (Unit {0}) ToolFault → Type 0
TellsEnd explains err (Ok done) = IsQuiet err
TellsEnd explains err (Err fault) = Tells err (told_of explains fault)

-- an explanation is asked for by the value `true`, and not by `false` or none
pub record IsAskedFor (explains : Bool) (value : Option (List ℕ)) : Type 0 where
  pub asked : value ≡ Some (codes "true") → explains ≡ true
  pub unasked : value ≡ Some (codes "false") → explains ≡ false
  pub none : value ≡ None → explains ≡ false

-- 0 if all was done, and otherwise the status of the error
abbrev pub status_after : Result (Unit {0}) ToolFault → ℕ
status_after (Ok done) = 0
status_after (Err fault) = status_of fault

-- a subcommand that these matches ask for is served to its end, and its error reported
pub record IsServed (name : List ℕ) (matches : ArgMatches) (inputs : Option (List ℕ) → Option (List ℕ)) (out err : Sent) (status : ℕ) : Type 0 where
  pub end : Result (Unit {0}) ToolFault
  pub explains : Bool
  pub status_is : status ≡ status_after end
  pub serves : IfSome (inputs (first_value (found_of matches) (codes "FILE"))) (λ input. Serves name input out.held out.holds end)
  pub ends : TellsEnd explains err end
  pub asked : IsAskedFor explains (one_text (found_of matches) (codes "explain"))

-- memory ran out before the words were understood, which is reported
pub record IsUnheld (err : Sent) (status : ℕ) : Type 0 where
  pub status_is : status ≡ status_of Memory
  pub line : Tells err (error_line Memory)

-- one of the two, by the name of the subcommand and what was found after it
abbrev pub Ends : List ℕ × List Row → (Option (List ℕ) → Option (List ℕ)) → Sent → Sent → ℕ → Type 0
Ends asked inputs out err status =
    ((matches : ArgMatches) × (rows_of (found_of matches) ≡ asked.1) × IsServed asked.0 matches inputs out err status) ⊎ IsUnheld err status

-- What the program replies to words that ask for nothing to run (docs/PROGRAM.md, "Faults and statuses").

-- the text that replaces an empty one
abbrev pub usage : List ℕ
usage = codes "usage: battle_tool SUBCOMMAND [--explain] [FILE]\n"

abbrev pub said_or_usage : List ℕ → List ℕ
said_or_usage [] = usage
said_or_usage text = text

-- the words are refused with status 2: a text on standard error says why, and nothing is printed
pub record IsRefusal (out err : Sent) (status : ℕ) : Type 0 where
  pub status_is : status ≡ 2
  pub text : List ℕ
  pub some : 0 < length text
  pub told : Tells err text
  pub unprinted : IsQuiet out

-- a write that fails is the error of printing a text
abbrev pub printed : Result (Unit {0}) DeviceFault → Result (Unit {0}) ToolFault
printed (Ok done) = Ok tt
printed (Err fault) = Err Write

-- help is printed, and an error of that is reported
pub record IsHelp (out err : Sent) (status : ℕ) : Type 0 where
  pub text : List ℕ
  pub some : 0 < length text
  pub result : Result (Unit {0}) DeviceFault
  pub shown : Sends out.held out.holds out.failed out.fails text result
  pub ends : TellsEnd false err (printed result)
  pub status_is : status ≡ status_after (printed result)

-- help or the version is asked for, or else the words are refused
pub record IsReply (kind : ErrorKind) (out err : Sent) (status : ℕ) : Type 0 where
  pub asked : (kind ≡ DisplayHelp) ⊎ (kind ≡ DisplayVersion) → IsHelp out err status
  pub refused : kind ≢ DisplayHelp → kind ≢ DisplayVersion → IsRefusal out err status

-- the reply is this text: on standard output where help or the version is asked for, and else on standard error
pub record Says (text : List ℕ) (kind : ErrorKind) (out err : Sent) : Type 0 where
  pub asked : (kind ≡ DisplayHelp) ⊎ (kind ≡ DisplayVersion) → (result : Result (Unit {0}) DeviceFault) × Sends out.held out.holds out.failed out.fails text result
  pub refused : kind ≢ DisplayHelp → kind ≢ DisplayVersion → Tells err text

-- the reply to an error of this kind, unless memory ran out
abbrev pub RepliesTo : ErrorKind → Sent → Sent → ℕ → Type 0
RepliesTo kind out err status = IsReply kind out err status ⊎ IsUnheld err status

-- the reply to one of these kinds, if there are any
abbrev pub Replies : Kinds → Sent → Sent → ℕ → Type 0
Replies [] out err status = ⊤
Replies (kind ∷ kinds) out err status = ((k : ErrorKind) × IsAmong k (kind ∷ kinds) × IsReply k out err status) ⊎ IsUnheld err status
