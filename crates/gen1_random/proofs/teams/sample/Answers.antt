use Rattle.gen1_random.proofs.Drawing.{row-is}
use Rattle.gen1_random.proofs.teams.sample.Goals as goal

pub member-requires-clause-species : goal.member-requires-clause-species
member-requires-clause-species c = (row-is c.args.index c.requires _).species

pub member-requires-clause-moves : goal.member-requires-clause-moves
member-requires-clause-moves c = (row-is c.args.index c.requires _).moves
