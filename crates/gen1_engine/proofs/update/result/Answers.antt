use Rattle.std.proofs.Common.{refl}
use Rattle.gen1_layout.specs.Shows.{setting_of}
use Rattle.gen1_offers.proofs.OfferedSet.{packs_of}
use Rattle.gen1_engine.proofs.update.result.Goals as goal

pub returns : goal.returns
returns c s h =
    let g = setting_of s in
    let k = packs_of h in
    rw (c.outcome.ensures.packs g s.field k, c.request.ensures.packs g s.field k, c.request-2.ensures.packs g s.field k) refl
