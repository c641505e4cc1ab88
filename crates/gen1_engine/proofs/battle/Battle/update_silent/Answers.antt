use Rattle.gen1_engine.proofs.Making.{bounded}
use Rattle.gen1_engine.proofs.battle.Battle.update_silent.Goals as goal

pub invariant_of-self : goal.invariant_of-self
invariant_of-self c = c.update_silent.ensures.valid c.self.invariant

pub returns-clause-answers : goal.returns-clause-answers
returns-clause-answers c = rw (← c.self.view_is) c.update_silent.ensures.answers

pub returns-clause-bounded : goal.returns-clause-bounded
returns-clause-bounded c s h = bounded s c.args.one c.args.two
