use Rattle.std.proofs.Common.{arith, length, rules, subst, ◌<◌}
use Rattle.std.proofs.lemmas.List.{get_or_default}
use Rattle.gen1_outcomes.specs.declared.nodes.Node.{Node}
use Rattle.gen1_outcomes.specs.Nodes.{GoesOn}
use Rattle.gen1_outcomes.proofs.nodes.Nodes.advance_in.Goals as goal

pub returns-clause-on : goal.returns-clause-on
returns-clause-on c is =
    let inside : c.args.place < length c.args.list.now = omega arith in
    record {
      within = inside;
      node = c.advance.new.self;
      here = λ none.
          subst (λ (n : Node). GoesOn n c.advance.new.self) (get_or_default c.args.list.now c.args.place c.index-list-place.result none inside)
          (c.advance.ensures.on is);
      list = search rules;
    }
