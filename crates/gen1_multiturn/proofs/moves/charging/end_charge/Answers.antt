use Rattle.gen1_layout.proofs.Words.{goes, lit<, put_on_conditions, refl}
use Rattle.gen1_machine.specs.Charging.{end_charge}
use Rattle.gen1_machine.specs.Conditions.{without_charging, without_invulnerability}
use Rattle.gen1_status.proofs.Statuses.{charging-same, invulnerability-same}
use Rattle.gen1_multiturn.proofs.moves.charging.end_charge.Goals as goal

pub returns : goal.returns
unfolding end_charge without_charging without_invulnerability
returns c = record {
  shown = λ events g p h.
      let s = c.args.side in
      let a = put_on_conditions h s without_charging (c.put_flag.ensures.stands 4 refl (lit< tt) _ _ without_charging h.within refl (charging-same _)) in
      goes _ _ a (put_on_conditions a s without_invulnerability (c.put_flag-2.ensures.stands 5 refl (lit< tt) _ _ without_invulnerability a.within refl (invulnerability-same _)));
}
