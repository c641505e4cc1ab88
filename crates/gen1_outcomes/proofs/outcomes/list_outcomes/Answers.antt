use Rattle.gen1_outcomes.specs.Complete.{ListsEvery}
use Rattle.gen1_outcomes.specs.Weights.{HasProbabilities}
use Rattle.gen1_outcomes.proofs.Complete.{of_walk}
use Rattle.gen1_outcomes.proofs.Lists.{follows_walk}
use Rattle.gen1_outcomes.proofs.outcomes.list_outcomes.Goals as goal

pub returns-in-Ok-clause-follow : goal.returns-in-Ok-clause-follow
returns-in-Ok-clause-follow c s h =
    follows_walk s c.args.pair.0 c.args.pair.1 c.args.options c.args.battle.now c.in-Ok.ways c.in-Ok.ensures.walk h (c.in-Ok.ensures.offered s h)
    c.list_ways.new.successors c.list_ways.result (λ stands offered. c.list_ways.ensures.follow s stands offered)

pub returns-in-Ok-clause-every : goal.returns-in-Ok-clause-every
returns-in-Ok-clause-every c s h exact =
    of_walk (λ one two o. ListsEvery s one two o.count c.list_ways.new.successors) s c.args.pair.0 c.args.pair.1 c.args.options c.args.battle.now c.in-Ok.ways
    c.in-Ok.ensures.walk h (c.in-Ok.ensures.offered s h) exact c.list_ways.result (c.list_ways.ensures.every s)

pub returns-in-Ok-clause-weights : goal.returns-in-Ok-clause-weights
returns-in-Ok-clause-weights c s h exact =
    of_walk (λ one two o. HasProbabilities s one two o.count o.whole c.list_ways.new.successors) s c.args.pair.0 c.args.pair.1 c.args.options c.args.battle.now c.in-Ok.ways
    c.in-Ok.ensures.walk h (c.in-Ok.ensures.offered s h) exact c.list_ways.result (c.list_ways.ensures.weights s)
