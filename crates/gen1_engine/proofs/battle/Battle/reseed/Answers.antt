use Rattle.gen1_engine.proofs.battle.Battle.reseed.Goals as goal

pub invariant_of-self : goal.invariant_of-self
invariant_of-self c = c.reseed.ensures.valid c.self.invariant

pub returns : goal.returns
returns c = rw (← c.self.view_is) c.reseed.ensures.stands
