use Rattle.gen1_layout.proofs.LoadingMembers.{members_law}
use Rattle.gen1_layout.proofs.loading.laws.members_stand.Goals as goal

pub returns : goal.returns
returns c = members_law
