use Rattle.std.proofs.Common.{◌∙◌}
use Rattle.gen1_layout.specs.Shows.{setting_of}
use Rattle.gen1_offers.proofs.OfferedSet.{packs_of}
use Rattle.gen1_host.proofs.LoadedHosts.{counts_by, counts_not}
use Rattle.gen1_host.proofs.loading.leaves_place.Goals as goal

pub returns-clause-passes : goal.returns-clause-passes
returns-clause-passes c s h is =
    counts_by s c.args.number c.from.result c.from-2.result c.from-3.result c.from.ensures (c.from-2.ensures ∙ c.pairs_left.ensures.value s h)
    (c.from-3.ensures ∙ c.limit.ensures.packs (setting_of s) s.field (packs_of h)) is

pub returns-clause-fails : goal.returns-clause-fails
returns-clause-fails c s h is k =
    counts_not s c.args.number c.from.result c.from-2.result c.from-3.result c.from.ensures (c.from-2.ensures ∙ c.pairs_left.ensures.value s h)
    (c.from-3.ensures ∙ c.limit.ensures.packs (setting_of s) s.field (packs_of h)) is k
