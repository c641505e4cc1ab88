use Rattle.std.proofs.lemmas.Option.{IfSome_then}
use Rattle.gen1_rolls.proofs.Standing.{exactly}
use Rattle.gen1_rolls.proofs.rolls.until.Goals as goal

pub returns-clause-found : goal.returns-clause-found
returns-clause-found g c = IfSome_then c.until_as.result c.until_as.ensures.found (λ x f. exactly f)
