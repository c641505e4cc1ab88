use Rattle.gen1_outcomes.proofs.Lists.{too_much}
use Rattle.gen1_outcomes.proofs.middles.Middles.add.Goals as goal

pub returns-in-Some-clause-large : goal.returns-in-Some-clause-large
returns-in-Some-clause-large c =
    too_much c.args.middle.now c.args.self.now.len c.args.self.now.list c.in-Some.place c.join.result c.in-Some.ensures.within c.join.ensures.large
