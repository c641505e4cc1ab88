use Rattle.gen1_layout.proofs.LoadingActives.{actives_law}
use Rattle.gen1_layout.proofs.loading.laws.actives_stand.Goals as goal

pub returns : goal.returns
returns c = actives_law
