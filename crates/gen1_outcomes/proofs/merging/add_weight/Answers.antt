use Rattle.std.proofs.Common.{ℕ, ◌∙◌, ◌+◌}
use Rattle.gen1_outcomes.proofs.Lists.{rewritten_at}
use Rattle.gen1_outcomes.proofs.Shares.{at_place, other_place}
use Rattle.gen1_outcomes.proofs.merging.add_weight.Goals as goal

pub returns-in-Some-clause-battles : goal.returns-in-Some-clause-battles
returns-in-Some-clause-battles c = rewritten_at c.args.successors.now c.args.place c.put_weight.new.self _ c.requires c.put_weight.ensures.battle

pub returns-in-Some-clause-here : goal.returns-in-Some-clause-here
returns-in-Some-clause-here c =
    at_place c.args.successors.now c.args.place c.put_weight.new.self c.index-successors-place.result c.weight.result (λ (w : ℕ). w + c.args.weight) c.requires
    (c.put_weight.ensures.weight ∙ c.in-Some.ensures.1) c.weight.ensures

pub returns-in-Some-clause-others : goal.returns-in-Some-clause-others
returns-in-Some-clause-others c = other_place c.args.successors.now c.args.place c.put_weight.new.self
