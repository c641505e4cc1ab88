use Rattle.std.proofs.Common.{sym, ◌∙◌}
use Rattle.gen1_machine.specs.declared.side.Side.TheVariants.{Two}
use Rattle.gen1_machine.specs.Step.{offers}
use Rattle.gen1_engine.proofs.Making.{refused_first, refused_second}
use Rattle.gen1_engine.proofs.update.refusal.Goals as goal

pub returns-then-not-is_offered : goal.returns-then-not-is_offered
returns-then-not-is_offered c s h =
    refused_first s c.args.one.now c.args.two.now c.refusal_of_first.result (sym (c.is_offered.ensures s h) ∙ c.if-not-is_offered.true)
    (c.refusal_of_first.ensures s h (offers s Two c.args.two.now))

pub returns-then-not-is_offered-2 : goal.returns-then-not-is_offered-2
returns-then-not-is_offered-2 c s h =
    refused_second s c.args.one.now c.args.two.now (sym (c.is_offered.ensures s h) ∙ c.if-not-is_offered.false)
    (sym (c.is_offered-2.ensures s h) ∙ c.if-not-is_offered-2.true)

pub returns : goal.returns
returns c s h = record {
  first = sym (c.is_offered.ensures s h) ∙ c.if-not-is_offered.false;
  second = sym (c.is_offered-2.ensures s h) ∙ c.if-not-is_offered-2.false;
}
