use Rattle.std.proofs.Common.{arith, ◌+◌}
use Rattle.std.proofs.lemmas.List.{drop-set-lt}
use Rattle.gen1_c.proofs.Writing.{front_more}
use Rattle.gen1_c.proofs.choices.put_one.Goals as goal

pub returns-then-count-lt9-clause-written : goal.returns-then-count-lt9-clause-written
returns-then-count-lt9-clause-written c base done is nine few =
    front_more done base c.args.choices.now c.args.count c.args.byte is (omega (arith, nine, few))

pub returns-clause-written : goal.returns-clause-written
returns-clause-written c base done is nine few = absurd (omega (arith, is.0, few, c.if-count-lt9.false))

pub returns-then-count-lt9-clause-rest : goal.returns-then-count-lt9-clause-rest
returns-then-count-lt9-clause-rest c = drop-set-lt (c.args.count + 1) c.args.choices.now c.args.count c.args.byte (omega arith)
