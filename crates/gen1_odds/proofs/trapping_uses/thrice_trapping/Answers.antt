use Rattle.std.proofs.Common.{refl}
use Rattle.gen1_odds.proofs.trapping_uses.thrice_trapping.Goals as goal

pub returns : goal.returns
returns c = rw (c.mixed_wide.ensures, c.thrice_either-hit.ensures.is, c.from.ensures, c.twice_trapping-missed.ensures.is, c.changed-left.ensures) refl
