use Rattle.std.proofs.Common.{ap, cond, sym, Bool, ◌∙◌}
use Rattle.gen1_outcomes.specs.Bytes.{has}
use Rattle.gen1_outcomes.proofs.Runs.{same_class}
use Rattle.gen1_outcomes.proofs.nodes.Node.class_of.Goals as goal

pub returns-then-contains : goal.returns-then-contains
returns-then-contains c x lt =
    let node = c.args.self.now in
    let in_class = sym (c.requires c.args.byte c.ranges.byte.fits) ∙ c.contains.ensures.there c.if-contains.true in
    c.requires x lt
    ∙ ap (λ (b : Bool). cond b (has node.rest x) 0) (same_class node.damage_classes node.look c.args.first c.args.byte x (has node.rest c.args.byte) in_class)
