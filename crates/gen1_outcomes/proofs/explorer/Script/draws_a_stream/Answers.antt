use Rattle.gen1_outcomes.proofs.explorer.Script.draws_a_stream.Goals as goal

pub returns : goal.returns
returns c = c.keeps_the_law.ensures.stream
