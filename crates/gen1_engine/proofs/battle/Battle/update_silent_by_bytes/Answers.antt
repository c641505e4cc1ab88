use Rattle.gen1_engine.proofs.battle.Battle.update_silent_by_bytes.Goals as goal

pub invariant_of-self : goal.invariant_of-self
invariant_of-self c = c.update_silent_by_bytes.ensures.valid c.self.invariant

pub returns : goal.returns
returns c = rw (← c.self.view_is) (record { answers = c.update_silent_by_bytes.ensures.answers })
