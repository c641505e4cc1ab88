-- Worked examples of command lines: which subcommand they ask for, on which FILE, and whether with an explanation (docs/PROGRAM.md,
-- "The program battle_tool"), and which have a fault. They show that what `tool` promises of both is not empty.
use Rattle.std.proofs.Common.{List, None, Option, Some, [], codes, false, refl, true, ◌∷◌, ◌≡◌}
use Rattle.clap.proofs.OnLiterals.{clap_on_literals}
use Rattle.clap.specs.Words.{Kinds, Row, Text, first_of, one_of, subcommand_of, takes}
use Rattle.clap.specs.declared.error.kind.ErrorKind.TheVariants as kind
use Rattle.battle_commands.specs.CommandLine.{faults, tool_app}

-- the words after the program's name are accepted, and ask for a subcommand, a FILE and an explanation
record AsksFor (behind : List Text) (name : Text) (file explain : Option Text) : Type 0 where
  taken : takes tool_app (codes "battle_tool" ∷ behind) ≡ true
  rows : List Row
  asked : subcommand_of tool_app (codes "battle_tool" ∷ behind) ≡ Some (name, rows)
  file_is : first_of (codes "FILE") rows ≡ file
  explain_is : one_of (codes "explain") rows ≡ explain

run_of_input : AsksFor (codes "run" ∷ []) (codes "run") None (Some (codes "false"))
unfolding clap_on_literals
run_of_input = record { taken = refl; rows = _; asked = refl; file_is = refl; explain_is = refl }

log_of_input : AsksFor (codes "log" ∷ []) (codes "log") None (Some (codes "false"))
unfolding clap_on_literals
log_of_input = record { taken = refl; rows = _; asked = refl; file_is = refl; explain_is = refl }

print_of_input : AsksFor (codes "print" ∷ []) (codes "print") None (Some (codes "false"))
unfolding clap_on_literals
print_of_input = record { taken = refl; rows = _; asked = refl; file_is = refl; explain_is = refl }

calc_of_input : AsksFor (codes "calc" ∷ []) (codes "calc") None (Some (codes "false"))
unfolding clap_on_literals
calc_of_input = record { taken = refl; rows = _; asked = refl; file_is = refl; explain_is = refl }

room_of_input : AsksFor (codes "room" ∷ []) (codes "room") None (Some (codes "false"))
unfolding clap_on_literals
room_of_input = record { taken = refl; rows = _; asked = refl; file_is = refl; explain_is = refl }

run_of_a_file : AsksFor (codes "run" ∷ codes "battle.json" ∷ []) (codes "run") (Some (codes "battle.json")) (Some (codes "false"))
unfolding clap_on_literals
run_of_a_file = record { taken = refl; rows = _; asked = refl; file_is = refl; explain_is = refl }

run_explained : AsksFor (codes "run" ∷ codes "--explain" ∷ codes "battle.json" ∷ []) (codes "run") (Some (codes "battle.json")) (Some (codes "true"))
unfolding clap_on_literals
run_explained = record { taken = refl; rows = _; asked = refl; file_is = refl; explain_is = refl }

-- the words after the program's name are not accepted, and have a fault of one of these kinds
record HasFault (behind : List Text) (kinds : Kinds) : Type 0 where
  refused : takes tool_app (codes "battle_tool" ∷ behind) ≡ false
  kinds_are : faults (codes "battle_tool" ∷ behind) ≡ kinds

-- a word that is not a subcommand, a second FILE, another option, and no word at all

another_word : HasFault (codes "walk" ∷ []) (kind.UnknownArgument ∷ kind.InvalidSubcommand ∷ [])
unfolding clap_on_literals
another_word = record { refused = refl; kinds_are = refl }

two_files : HasFault (codes "run" ∷ codes "a.json" ∷ codes "b.json" ∷ []) (kind.UnknownArgument ∷ [])
unfolding clap_on_literals
two_files = record { refused = refl; kinds_are = refl }

another_option : HasFault (codes "run" ∷ codes "--quiet" ∷ []) (kind.UnknownArgument ∷ [])
unfolding clap_on_literals
another_option = record { refused = refl; kinds_are = refl }

no_word : HasFault [] (kind.MissingSubcommand ∷ [])
unfolding clap_on_literals
no_word = record { refused = refl; kinds_are = refl }

-- requests for help

help : HasFault (codes "--help" ∷ []) (kind.DisplayHelp ∷ [])
unfolding clap_on_literals
help = record { refused = refl; kinds_are = refl }

help_of_run : HasFault (codes "run" ∷ codes "--help" ∷ []) (kind.DisplayHelp ∷ [])
unfolding clap_on_literals
help_of_run = record { refused = refl; kinds_are = refl }
