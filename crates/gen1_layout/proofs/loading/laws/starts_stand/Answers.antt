use Rattle.gen1_layout.proofs.LoadingLaws.{starts_law}
use Rattle.gen1_layout.proofs.loading.laws.starts_stand.Goals as goal

pub returns : goal.returns
returns c = starts_law
