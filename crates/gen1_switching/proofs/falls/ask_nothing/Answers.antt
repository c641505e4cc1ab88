use Rattle.gen1_layout.proofs.Words.{put}
use Rattle.gen1_machine.specs.declared.terms.Request.TheVariants as requests
use Rattle.gen1_machine.specs.State.{with_requests}
use Rattle.gen1_machine.specs.Falls.{ask_nothing}
use Rattle.gen1_switching.proofs.falls.ask_nothing.Goals as goal

pub returns : goal.returns
unfolding ask_nothing
returns c = record { shown = λ events g p h. put h (with_requests requests.Pass requests.Pass) (c.put_requests.ensures.stands _ _ h.within) }
