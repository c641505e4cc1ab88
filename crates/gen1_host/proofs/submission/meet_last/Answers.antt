use Rattle.std.proofs.Common.{arith, sym, ◌∙◌}
use Rattle.gen1_machine.specs.declared.side.Side.TheVariants.{One, Two}
use Rattle.gen1_host.proofs.submission.meet_last.Goals as goal

pub returns-clause-within : goal.returns-clause-within
returns-clause-within c k = record {
  room = k.room;
  one = c.meet.ensures.within One k.one;
  two = c.meet-2.ensures.within Two k.two;
  pixels = c.meet.ensures.pixels ∙ k.pixels ∙ sym c.meet-2.ensures.pixels;
  ending = k.ending;
  draw = omega arith;
}
