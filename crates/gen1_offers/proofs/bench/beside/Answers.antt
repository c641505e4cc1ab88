use Rattle.std.proofs.Common.{refl}
use Rattle.gen1_offers.specs.OfferedChoices.{living_of}
use Rattle.gen1_offers.proofs.bench.beside.Goals as goal

pub returns-clause-digits : goal.returns-clause-digits
returns-clause-digits c g f h = c.without.ensures.digits (living_of c.args.side f) refl (c.living.ensures.packs g f h)
