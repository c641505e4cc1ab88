use Rattle.gen1_guesses.proofs.forks.forked.Goals as goal

pub returns : goal.returns
returns c = cc
