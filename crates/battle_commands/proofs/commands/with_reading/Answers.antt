use Rattle.std.proofs.Common.{ap, ◌∙◌}
use Rattle.std.proofs.lemmas.Result.{IfOk-weaker}
use Rattle.clap.specs.Words.{App, app_of, with_subcommand}
use Rattle.battle_commands.proofs.commands.with_reading.Goals as goal

pub returns-clause-app : goal.returns-clause-app
returns-clause-app c =
    IfOk-weaker c.subcommand.result _ _
    (λ more is. is.shape c.in_ok-subcommand.ensures.1 ∙ ap (with_subcommand (app_of c.args.command)) (ap (λ (a : App). a.top) c.in_ok-subcommand.ensures.0))
    c.subcommand.ensures

pub returns-clause-helps : goal.returns-clause-helps
returns-clause-helps c = IfOk-weaker c.subcommand.result _ _ (λ more is. (c.in_ok-subcommand.subcommand, c.in_ok-subcommand.ensures.2, is)) c.subcommand.ensures
