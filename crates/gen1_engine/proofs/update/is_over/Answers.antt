use Rattle.std.proofs.Common.{ap, ◌∙◌}
use Rattle.gen1_machine.specs.State.{is_over}
use Rattle.gen1_layout.specs.Shows.{setting_of}
use Rattle.gen1_offers.proofs.OfferedSet.{packs_of}
use Rattle.gen1_engine.proofs.update.is_over.Goals as goal

pub returns : goal.returns
returns c s h = c.is_over.ensures ∙ ap is_over (c.outcome.ensures.packs (setting_of s) s.field (packs_of h))
