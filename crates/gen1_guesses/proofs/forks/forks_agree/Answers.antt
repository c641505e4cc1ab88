use Rattle.gen1_guesses.proofs.Agreeing.{forks_agree}
use Rattle.gen1_guesses.proofs.forks.forks_agree.Goals as goal

pub returns : goal.returns
returns c = forks_agree
