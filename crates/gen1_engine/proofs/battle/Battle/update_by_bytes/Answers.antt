use Rattle.gen1_engine.proofs.battle.Battle.update_by_bytes.Goals as goal

pub invariant_of-self : goal.invariant_of-self
invariant_of-self c = c.update_by_bytes.ensures.valid c.self.invariant

pub returns-clause-answers : goal.returns-clause-answers
returns-clause-answers c = rw (← c.self.view_is) c.update_by_bytes.ensures.answers

pub returns-clause-logs : goal.returns-clause-logs
returns-clause-logs c = rw (← c.self.view_is) c.update_by_bytes.ensures.logs
