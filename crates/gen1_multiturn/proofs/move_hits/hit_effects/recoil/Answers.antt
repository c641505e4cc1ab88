use Rattle.gen1_layout.proofs.Words.{ap, seeing, ◌∙◌}
use Rattle.gen1_machine.specs.declared.event.DamageSource.TheVariants as sources
use Rattle.gen1_machine.specs.HitEffects.{recoil, recoil_of}
use Rattle.gen1_machine.specs.Moves.{move_at}
use Rattle.gen1_machine.specs.Progress.{lose_hp}
use Rattle.gen1_multiturn.proofs.move_hits.hit_effects.recoil.Goals as goal

pub returns-clause-shown : goal.returns-clause-shown
unfolding recoil
returns-clause-shown t c g p h =
    seeing _ (lose_hp c.args.side sources.Recoil) (c.recoil_of-amount.ensures ∙ ap (recoil_of (move_at c.args.id)) (c.last_damage.ensures.stands _ _ h.within)) (c.lose_hp.ensures.shown g p h)
