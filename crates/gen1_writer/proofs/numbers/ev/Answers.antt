use Rattle.gen1_writer.proofs.Parts.{ev_found, ev_passed}
use Rattle.gen1_writer.proofs.numbers.ev.Goals as goal

pub returns-then-exp-from : goal.returns-then-exp-from
returns-then-exp-from c =
    ev_found c.args.exp c.loop-ev.ev c.from.result c.from-in-loop-ev.result c.from.ensures c.from-in-loop-ev.ensures c.loop-ev.invariant c.loop-ev-test.true
    c.if-exp-from.true

pub loop-ev-preserved : goal.loop-ev-preserved
loop-ev-preserved c =
    ev_passed c.args.exp c.loop-ev.ev c.from.result c.from-in-loop-ev.result c.from.ensures c.from-in-loop-ev.ensures c.loop-ev.invariant c.loop-ev-test.true
    c.if-exp-from.false
