-- The command line of the program, as clap takes it (docs/PROGRAM.md, "The program battle_tool"): five subcommands, each with a
-- FILE and `--explain`.
use Rattle.std.specs.Prelude.{List, Some, codes, is_some, true, ℕ, Bool, ◌≡◌, IsSomeAnd}
use Rattle.clap.specs.Words.{App, Kinds, Row, Rule, Text, fault_of, first_of, new_app, new_rule, subcommand_of, takes, with_rule, with_subcommand}
use Rattle.clap.specs.Simple.{Shape, on_top}
use Rattle.clap.specs.declared.builder.action.ArgAction.TheVariants.{Set, SetTrue}
use Rattle.clap.specs.Built.{AddsSubcommand}
use Rattle.clap.specs.declared.builder.arg.Arg.{Arg}
use Rattle.clap.specs.declared.builder.command.Command.{Command}
use Rattle.clap.specs.declared.builder.command.Command.TheViews.{out-Command as fields_of}

abbrev pub file_rule : Rule
file_rule = record (new_rule (codes "FILE")) { action = Some Set }

abbrev pub explain_rule : Rule
explain_rule = record (new_rule (codes "explain")) { long = Some (codes "explain"); action = Some SetTrue }

abbrev pub reading : List ℕ → App
reading name = with_rule (with_rule (new_app name) explain_rule) file_rule

abbrev pub needing_one : Shape → Shape
needing_one s = record s { subcommand_required = true }

abbrev pub tool_app : App
tool_app =
    with_subcommand (with_subcommand (with_subcommand (with_subcommand (with_subcommand
    (on_top needing_one (new_app (codes "battle_tool")))
    (reading (codes "run")).top) (reading (codes "log")).top) (reading (codes "print")).top) (reading (codes "calc")).top) (reading (codes "room")).top

-- the command line accepts the words, which ask for a subcommand, by its name and what was found after it
abbrev pub AskFor : List Text → Text × List Row → Type 0
AskFor words asked = (takes tool_app words ≡ true) × (subcommand_of tool_app words ≡ Some asked)

-- a FILE was found
abbrev pub names_file : Text × List Row → Bool
names_file asked = is_some (first_of (codes "FILE") asked.1)

-- why the command line refuses the words, or what they ask for in place of a subcommand: the kinds of error that clap may give, or none
abbrev pub faults : List Text → Kinds
faults words = fault_of tool_app words

-- The help of each subcommand (docs/PROGRAM.md, "The program battle_tool").

-- these texts say what the subcommand of this name does, and what it reads and prints
pub record Describes (name about input : List ℕ) : Type 0 where
  pub run_about : name ≡ codes "run" → about ≡ codes "Runs a battle and prints its lines"
  pub log_about : name ≡ codes "log" → about ≡ codes "Runs a battle and writes its log"
  pub print_about : name ≡ codes "print" → about ≡ codes "Prints the lines of a log"
  pub calc_about : name ≡ codes "calc" → about ≡ codes "Prints the damage numbers of a move"
  pub room_about : name ≡ codes "room" → about ≡ codes "Runs a room of two players and prints the reply to each submission"
  pub run_input : name ≡ codes "run" → input ≡ codes "Reads {\"seed\":[10 bytes],\"one\":[member],\"two\":[member],\"choices\":[[byte,byte],..]}, and optionally the keys \"rules\" and \"limit\". A member is {\"species\":name,\"level\":n,\"dvs\":[4],\"exp\":[5],\"moves\":[[name,ups],..]}. Prints a line for each event, pair by pair."
  pub log_input : name ≡ codes "log" → input ≡ codes "Reads the same object as run. Writes the log bytes of each pair, for print to read."
  pub print_input : name ≡ codes "print" → input ≡ codes "Reads the log bytes of updates, one after the other. Prints a line for each event, and nothing if the bytes are not a log."
  pub calc_input : name ≡ codes "calc" → input ≡ codes "Reads {\"attacker\":member,\"defender\":member,\"move\":name,\"critical\":true or false}, with members as in run. Prints in one line the damage at each factor from 217 to 255, of the attacker's move against the defender, both just sent out. Prints nothing for a move without the usual damage."
  pub room_input : name ≡ codes "room" → input ≡ codes "Reads the object of run with \"submissions\":[[side,number,byte],..] in place of choices: the side, 1 or 2, the number of its pair, from 0, and the choice. Prints the lines of the start, and for each submission |room|waiting, |room|advanced with the lines of the pair, or |room|refused|N."

-- the help of a command begins with what the subcommand of this name does, and ends with what it reads and prints
abbrev pub Helps : List ℕ → Command → Type 0
Helps name c = IsSomeAnd (fields_of c).about (λ about. IsSomeAnd (fields_of c).after_help (λ input. Describes name about.now input.now))

-- the help of an argument is this text
abbrev pub HelpsArg : List ℕ → Arg → Type 0
HelpsArg text a = IsSomeAnd a.help (λ help. help.now ≡ text)

-- one more subcommand, of which the help is that of its name
abbrev pub AddsHelped : List ℕ → Command → Command → Type 0
AddsHelped name old new = (sub : Command) × Helps name sub × AddsSubcommand old sub new

-- the help of the program: it begins and ends with these texts, and five subcommands were added
pub record HelpsAll (c : Command) : Type 0 where
  pub top : Command
  pub with_run : Command
  pub with_log : Command
  pub with_print : Command
  pub with_calc : Command
  pub with_room : Command
  pub run : AddsHelped (codes "run") top with_run
  pub log : AddsHelped (codes "log") with_run with_log
  pub print : AddsHelped (codes "print") with_log with_print
  pub calc : AddsHelped (codes "calc") with_print with_calc
  pub room : AddsHelped (codes "room") with_calc with_room
  pub subcommands : (fields_of c).subcommands ≡ (fields_of with_room).subcommands
  pub about : IsSomeAnd (fields_of c).about (λ text. text.now ≡ codes "Runs link battles of the first generation")
  pub statuses : IsSomeAnd (fields_of c).after_help (λ text. text.now ≡ codes "Status: 0 all was printed, 1 the input was refused, 2 the command line was refused, 3 a read or a write failed, 4 out of memory. Standard error says why.")
