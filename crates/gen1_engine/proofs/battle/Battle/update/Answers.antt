use Rattle.gen1_engine.proofs.Making.{bounded}
use Rattle.gen1_engine.proofs.battle.Battle.update.Goals as goal

pub invariant_of-self : goal.invariant_of-self
invariant_of-self c = c.update.ensures.valid c.self.invariant

pub returns-clause-answers : goal.returns-clause-answers
returns-clause-answers c = rw (← c.self.view_is) c.update.ensures.answers

pub returns-clause-logs : goal.returns-clause-logs
returns-clause-logs c = rw (← c.self.view_is) c.update.ensures.logs

pub returns-clause-bounded : goal.returns-clause-bounded
returns-clause-bounded c s h = bounded s c.args.one c.args.two
