use Rattle.std.proofs.Common.{◌∙◌}
use Rattle.battle_commands.proofs.Serving.{or_false, file_is_none, file_is_some, opened_serves, read_well, serves, standard_serves, unopened_serves, with_file, without_file}
use Rattle.battle_commands.proofs.commands.run.Goals as goal

pub returns-in-None-clause-serves : goal.returns-in-None-clause-serves
returns-in-None-clause-serves g c =
    standard_serves _ _ c.args.name.now _ _ _ _ (without_file _ _ _ c.get_str.ensures c.in-None.is)
    (serves c.args.name.now _ _ _ _ c.run_named.ensures.print c.run_named.ensures.calc c.run_named.ensures.room c.run_named.ensures.log c.run_named.ensures.run)

pub returns-in-None-clause-alone : goal.returns-in-None-clause-alone
returns-in-None-clause-alone g c h = absurd (file_is_none _ (without_file _ _ _ c.get_str.ensures c.in-None.is) h)

pub returns-in-None-clause-read : goal.returns-in-None-clause-read
returns-in-None-clause-read g c h = read_well c.run_named.result _ _ c.run_named.ensures.read h

pub returns-in-Ok-clause-serves : goal.returns-in-Ok-clause-serves
returns-in-Ok-clause-serves g c =
    opened_serves _ _ _ c.args.name.now _ _ _ _ _ (with_file _ _ _ _ c.get_str.ensures c.in-Some.is) c.in-Ok.ensures.bytes
    (serves c.args.name.now _ _ _ _ c.run_named-in-Ok.ensures.print c.run_named-in-Ok.ensures.calc c.run_named-in-Ok.ensures.room c.run_named-in-Ok.ensures.log c.run_named-in-Ok.ensures.run)

pub returns-in-Ok-clause-unopened : goal.returns-in-Ok-clause-unopened
returns-in-Ok-clause-unopened g c h = absurd (file_is_some _ _ (with_file _ _ _ _ c.get_str.ensures c.in-Some.is) h)

pub returns-in-Ok-clause-file : goal.returns-in-Ok-clause-file
returns-in-Ok-clause-file g c h = read_well c.run_named-in-Ok.result _ _ c.run_named-in-Ok.ensures.read h ∙ c.in-Ok.ensures.fails ∙ or_false _

pub returns-in-Err-clause-serves : goal.returns-in-Err-clause-serves
returns-in-Err-clause-serves g c = unopened_serves _ _ _ c.args.name.now _ _ (with_file _ _ _ _ c.get_str.ensures c.in-Some.is)

pub returns-in-Err-clause-unopened : goal.returns-in-Err-clause-unopened
returns-in-Err-clause-unopened g c h = absurd (file_is_some _ _ (with_file _ _ _ _ c.get_str.ensures c.in-Some.is) h)
