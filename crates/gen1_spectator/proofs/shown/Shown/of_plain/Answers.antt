use Rattle.std.proofs.Common.{refl}
use Rattle.gen1_spectator.proofs.PlainViews.{kind_found}
use Rattle.gen1_spectator.proofs.shown.Shown.of_plain.Goals as goal

pub returns : goal.returns
returns c = rw (kind_found c.args.plain.now.status _ c.from_number.ensures.numbered c.from_number.ensures.exact) refl
