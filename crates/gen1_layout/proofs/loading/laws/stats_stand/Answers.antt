use Rattle.gen1_layout.proofs.LoadingLaws.{stats_law}
use Rattle.gen1_layout.proofs.loading.laws.stats_stand.Goals as goal

pub returns : goal.returns
returns c = stats_law
