use Rattle.std.proofs.Common.{subst, sym}
use Rattle.gen1_layout.specs.Parts.{Parts}
use Rattle.gen1_layout.specs.Shows.{Stands, setting_of}
use Rattle.gen1_offers.proofs.OfferedSet.{packs_of}
use Rattle.gen1_engine.proofs.battle.Battle.rules.Goals as goal

pub returns : goal.returns
returns c s h = c.rules.ensures.packs (setting_of s) s.field (packs_of (subst (λ (p : Parts). Stands p s) (sym c.self.view_is) h))
