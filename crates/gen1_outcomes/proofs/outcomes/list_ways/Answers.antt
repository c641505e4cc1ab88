use Rattle.std.proofs.Common.{ap, arith, refl, ◌∙◌}
use Rattle.gen1_outcomes.specs.declared.successor.OutcomeOptions.{OutcomeOptions}
use Rattle.gen1_outcomes.proofs.Complete.{finished_every}
use Rattle.gen1_outcomes.proofs.Lists.{finished_follows}
use Rattle.gen1_outcomes.proofs.Shares.{finished_all, finished_left, finished_probable, none_probable}
use Rattle.gen1_outcomes.proofs.Stages.{finished_weights}
use Rattle.gen1_outcomes.proofs.Table.{finished_once, none_indexed}
use Rattle.gen1_outcomes.proofs.outcomes.list_ways.Goals as goal

pub returns-clause-follow : goal.returns-clause-follow
returns-clause-follow c s h o =
    finished_follows s c.args.ways.now.one c.args.ways.now.two c.args.ways.now.options c.add_all.new.tally.count c.add_all.new.successors c.finished.result
    (c.in_ok-add_all.ensures.follow s h o (λ k none lt. absurd (omega (arith, lt)))) c.finished.ensures.count

pub returns-clause-all : goal.returns-clause-all
returns-clause-all c least =
    finished_all _ _ c.finished.result c.in_ok-add_all.ensures.left_out (ap (λ (o : OutcomeOptions). o.least) c.options.ensures ∙ least) refl c.finished.ensures.left_out

pub returns-clause-probable : goal.returns-clause-probable
returns-clause-probable c =
    finished_probable c.args.ways.now.options.least c.add_all.new.tally c.add_all.new.successors c.finished.result
    (c.in_ok-add_all.ensures.probable (none_probable _ _ refl refl refl))
    (c.in_ok-add_all.ensures.left_out.least ∙ ap (λ (o : OutcomeOptions). o.least) c.options.ensures) c.finished.ensures.count c.finished.ensures.whole

pub returns-clause-left : goal.returns-clause-left
returns-clause-left c =
    finished_left c.args.ways.now.options.least c.add_all.new.tally c.add_all.new.successors c.finished.result
    (c.in_ok-add_all.ensures.probable (none_probable _ _ refl refl refl))
    (c.in_ok-add_all.ensures.left_out.least ∙ ap (λ (o : OutcomeOptions). o.least) c.options.ensures) c.finished.ensures.left_out c.finished.ensures.whole c.finished.ensures.ways

pub returns-clause-once : goal.returns-clause-once
returns-clause-once c =
    finished_once c.add_all.new.tally.count c.add_all.new.successors c.add_all.new.table c.finished.result
    (c.in_ok-add_all.ensures.indexed (none_indexed c.args.table.now 0 c.args.successors.now refl)) c.finished.ensures.count

pub returns-clause-every : goal.returns-clause-every
returns-clause-every c s of exact =
    finished_every s c.args.ways.now.one c.args.ways.now.two c.add_all.new.tally.count c.add_all.new.successors c.finished.result
    (c.in_ok-add_all.ensures.every exact s of) c.finished.ensures.count

pub returns-clause-weights : goal.returns-clause-weights
returns-clause-weights c s of exact =
    let are = none_indexed c.args.table.now 0 c.args.successors.now refl in
    finished_weights c.args.ways.now s _ c.add_all.new.tally c.args.successors.now c.add_all.new.successors c.finished.result refl refl
    (c.in_ok-add_all.ensures.weights exact are s of) (c.in_ok-add_all.ensures.indexed are).distinct c.finished.ensures.count c.finished.ensures.whole
