use Rattle.std.proofs.Common.{[], arith, length-append, ◌∷◌}
use Rattle.gen1_c.proofs.Writing.{front_same}
use Rattle.gen1_c.proofs.choices.put_if.Goals as goal

pub returns-then-holds-clause-written : goal.returns-then-holds-clause-written
returns-then-holds-clause-written c base done is nine few =
    let small = rw (c.if-holds.true) at few in
    rw (c.if-holds.true) (c.put_one.ensures.written base done is nine (omega (arith, small, length-append done (c.args.byte ∷ []))))

pub returns-clause-written : goal.returns-clause-written
returns-clause-written c base done is nine few = rw (c.if-holds.false) (front_same done base c.args.choices.now c.args.count is)
