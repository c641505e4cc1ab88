use Rattle.std.proofs.Common.{arith, refl, ◌∙◌}
use Rattle.gen1_stats.specs.Members.{Member}
use Rattle.gen1_machine.specs.State.{party}
use Rattle.gen1_layout.specs.Shows.{setting_of}
use Rattle.gen1_offers.proofs.OfferedSet.{packs_of}
use Rattle.gen1_playouts.proofs.Playing.{sums-more}
use Rattle.gen1_playouts.proofs.playouts.hp_unhurt.Goals as goal

pub loop-before-init : goal.loop-before-init
loop-before-init c = (omega arith, λ s h. refl)

pub loop-before-preserved : goal.loop-before-preserved
loop-before-preserved c = (
  omega (arith, c.loop-before.invariant.0, c.from-sum.ensures),
  λ s h.
      sums-more (λ (m : Member). m.max) (party c.args.side s.field) c.loop-before.before (c.loop-before.invariant.1 s h)
      (c.from-sum.ensures ∙ c.max_hp_at.ensures.packs (setting_of s) s.field (packs_of h)),
)
