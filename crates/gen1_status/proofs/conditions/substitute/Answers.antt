use Rattle.gen1_status.proofs.conditions.substitute.Goals as goal

pub returns-clause-shown : goal.returns-clause-shown
returns-clause-shown t c g p h = (c.make_substitute.result, c.make_substitute.ensures.shown g p h)
