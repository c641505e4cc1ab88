use Rattle.gen1_offers.proofs.MaskDigits.{four_bytes}
use Rattle.gen1_offers.proofs.masks.some_of_four.Goals as goal

pub returns-clause-digits : goal.returns-clause-digits
returns-clause-digits c small_a small_b small_c small_d =
    four_bytes c.args.a c.args.b c.args.c c.args.d c.from_le_bytes-four.result small_a small_b small_c small_d c.from_le_bytes-four.ensures
