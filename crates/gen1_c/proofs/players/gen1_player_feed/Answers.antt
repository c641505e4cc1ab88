use Rattle.gen1_c.proofs.players.gen1_player_feed.Goals as goal

pub returns-in-Err-clause-fault : goal.returns-in-Err-clause-fault
returns-in-Err-clause-fault c side team terms before shown h n =
    (c.in-Err.fault, c.of_log.ensures.value, c.in-Err.ensures.fault side team terms before shown h)
