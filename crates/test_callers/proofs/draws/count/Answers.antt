use Rattle.std.proofs.Common.{nat_lt, ap, arith, refl}
use Rattle.std.proofs.lemmas.Bool.Decides.{nat_tests}
use Rattle.gen1_rolls.specs.Streams.{low_bits}
use Rattle.test_callers.proofs.draws.count.Goals as goal

pub returns-in-Some : goal.returns-in-Some
returns-in-Some g c since n a =
    let x = c.in-Some.ensures.found.on since n a in
    rw x.found ((ap (low_bits 3) x.is, x.stands))

pub returns-in-None : goal.returns-in-None
returns-in-None g c since n a =
    let x = c.in-None.ensures.none.on since n a in
    rw x.none ((refl, x.stands))
