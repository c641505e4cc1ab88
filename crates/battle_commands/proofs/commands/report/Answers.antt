use Rattle.battle_commands.proofs.commands.report.Goals as goal

pub returns-clause-told : goal.returns-clause-told
returns-clause-told g c = (c.tell.result, c.tell.ensures)
