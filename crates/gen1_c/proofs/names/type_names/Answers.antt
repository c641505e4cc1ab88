use Rattle.std.proofs.Common.{refl}
use Rattle.gen1_c.proofs.names.type_names.Goals as goal

pub returns : goal.returns
returns c = refl
