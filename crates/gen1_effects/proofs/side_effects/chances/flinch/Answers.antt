use Rattle.gen1_layout.proofs.Words.{goes, lit<, put_on_conditions, refl}
use Rattle.gen1_machine.specs.Conditions.{with_flinch, without_recharge}
use Rattle.gen1_machine.specs.SideEffects.{flinch}
use Rattle.gen1_status.proofs.Statuses.{recharge-same}
use Rattle.gen1_effects.proofs.SideEffects.{flinching-same}
use Rattle.gen1_effects.proofs.side_effects.chances.flinch.Goals as goal

pub returns : goal.returns
unfolding flinch with_flinch without_recharge
returns c = record {
  shown = λ events g p h.
      let a = put_on_conditions h c.args.side with_flinch (c.put_flag.ensures.stands 3 refl (lit< tt) _ _ with_flinch h.within refl (flinching-same _)) in
      goes _ _ a (put_on_conditions a c.args.side without_recharge
      (c.put_flag-2.ensures.stands 10 refl (lit< tt) _ _ without_recharge a.within refl (recharge-same _)));
}
