use Rattle.gen1_engine.proofs.battle.Battle.update_events_by_bytes.Goals as goal

pub invariant_of-self : goal.invariant_of-self
invariant_of-self c = c.update_events_by_bytes.ensures.valid c.self.invariant

pub returns-clause-answers : goal.returns-clause-answers
returns-clause-answers c = rw (← c.self.view_is) c.update_events_by_bytes.ensures.answers

pub returns-clause-tells : goal.returns-clause-tells
returns-clause-tells c = rw (← c.self.view_is) c.update_events_by_bytes.ensures.tells
