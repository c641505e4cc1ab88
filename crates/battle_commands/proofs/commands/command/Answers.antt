use Rattle.std.proofs.Common.{ap, codes, refl, ◌≡◌, ◌∙◌}
use Rattle.clap.specs.Words.{App, Text, app_of, new_app, with_subcommand}
use Rattle.clap.specs.Simple.{app_of_fields, on_top}
use Rattle.battle_commands.specs.CommandLine.{needing_one, reading}
use Rattle.battle_commands.proofs.commands.command.Goals as goal

pub returns-clause-app : goal.returns-clause-app
returns-clause-app c =
    let with_reading = λ (name : Text) (a : App). with_subcommand a (reading name).top in
    let top_is : app_of c.subcommand_required-top.result ≡ on_top needing_one (new_app (codes "battle_tool")) =
    ap app_of_fields c.subcommand_required-top.ensures ∙ ap (on_top needing_one) c.new.ensures.app in
    let run_is = c.in_ok-with_run.ensures.app ∙ ap (with_reading (codes "run")) top_is in
    let log_is = c.in_ok-with_log.ensures.app ∙ ap (with_reading (codes "log")) run_is in
    let print_is = c.in_ok-with_print.ensures.app ∙ ap (with_reading (codes "print")) log_is in
    let calc_is = c.in_ok-with_calc.ensures.app ∙ ap (with_reading (codes "calc")) print_is in
    ap app_of_fields c.after_help.ensures ∙ ap app_of_fields c.about.ensures ∙ c.in_ok-with_room.ensures.app ∙ ap (with_reading (codes "room")) calc_is

pub returns-clause-helps : goal.returns-clause-helps
returns-clause-helps c = record {
  top = c.subcommand_required-top.result;
  with_run = c.in_ok-with_run.with_run;
  with_log = c.in_ok-with_log.with_log;
  with_print = c.in_ok-with_print.with_print;
  with_calc = c.in_ok-with_calc.with_calc;
  with_room = c.in_ok-with_room.with_room;
  run = c.in_ok-with_run.ensures.helps;
  log = c.in_ok-with_log.ensures.helps;
  print = c.in_ok-with_print.ensures.helps;
  calc = c.in_ok-with_calc.ensures.helps;
  room = c.in_ok-with_room.ensures.helps;
  subcommands = rw (c.after_help.ensures, c.about.ensures) refl;
  about = rw (c.after_help.ensures, c.about.ensures) refl;
  statuses = rw c.after_help.ensures refl;
}
