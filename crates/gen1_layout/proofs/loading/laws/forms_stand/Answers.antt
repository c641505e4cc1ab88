use Rattle.gen1_layout.proofs.LoadingForms.{forms_law}
use Rattle.gen1_layout.proofs.loading.laws.forms_stand.Goals as goal

pub returns : goal.returns
returns c = forms_law
