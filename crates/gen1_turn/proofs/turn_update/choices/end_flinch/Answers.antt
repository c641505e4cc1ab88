use Rattle.gen1_layout.proofs.Words.{conditions_in, lit<, put_on_conditions, refl}
use Rattle.gen1_machine.specs.Conditions.{without_flinch}
use Rattle.gen1_status.proofs.Statuses.{flinch-same}
use Rattle.gen1_turn.proofs.turn_update.choices.end_flinch.Goals as goal

pub returns : goal.returns
unfolding without_flinch
returns c = record {
  shown = λ events g p h. put_on_conditions h c.args.side without_flinch
      (c.put_flag.ensures.stands 3 refl (lit< tt) _ p.field without_flinch h.within refl (flinch-same (conditions_in c.args.side p.field)));
}
