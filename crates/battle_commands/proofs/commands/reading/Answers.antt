use Rattle.std.proofs.Common.{ap, ap₂, rules, ◌∙◌}
use Rattle.clap.specs.Words.{with_rule}
use Rattle.clap.specs.Simple.{app_of_fields}
use Rattle.battle_commands.proofs.commands.reading.Goals as goal

pub returns : goal.returns
returns c = (
  ap app_of_fields c.after_help.ensures ∙ ap app_of_fields c.about.ensures
      ∙ c.in_ok-filed.ensures.shape c.file_arg.ensures.local
      ∙ ap₂ with_rule (c.in_ok-explained.ensures.shape c.explain_arg.ensures.local ∙ ap₂ with_rule c.new.ensures.app c.explain_arg.ensures.rule) c.file_arg.ensures.rule,
  search rules,
  rw (c.after_help.ensures, c.about.ensures) c.help_of.ensures,
)
