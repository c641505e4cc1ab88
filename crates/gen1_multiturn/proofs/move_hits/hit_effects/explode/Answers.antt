use Rattle.gen1_layout.proofs.Words.{goes, lit<, put_on_conditions, put_on_member, refl}
use Rattle.gen1_machine.specs.Conditions.{without_seed}
use Rattle.gen1_machine.specs.HitEffects.{explode}
use Rattle.gen1_machine.specs.State.{fallen}
use Rattle.gen1_multiturn.proofs.MoveHits.{seedless-same}
use Rattle.gen1_multiturn.proofs.move_hits.hit_effects.explode.Goals as goal

pub returns : goal.returns
unfolding explode fallen without_seed
returns c = record {
  shown = λ events g p h.
      let a = put_on_member h c.args.side fallen (c.put_fallen.ensures.stands _ _ fallen h.within refl) in
      goes _ _ a (put_on_conditions a c.args.side without_seed
      (c.put_flag.ensures.stands 12 refl (lit< tt) _ _ without_seed a.within refl (seedless-same _)));
}
