use Rattle.gen1_engine.proofs.battle.Battle.replay.Goals as goal

pub returns-clause-replays : goal.returns-clause-replays
returns-clause-replays g c = rw (← c.self.view_is) c.replay.ensures.replays
