use Rattle.gen1_outcomes.proofs.explorer.ScriptSteady.next_byte.Goals as goal

pub returns-then-self-lt-DEPTH-clause-stream : goal.returns-then-self-lt-DEPTH-clause-stream
returns-then-self-lt-DEPTH-clause-stream c = c.draws_a_stream.ensures

pub returns-else-self-lt-DEPTH-clause-stream : goal.returns-else-self-lt-DEPTH-clause-stream
returns-else-self-lt-DEPTH-clause-stream c = c.draws_a_stream.ensures
