use Rattle.std.proofs.Common.{max, ◌/◌}
use Rattle.gen1_layout.proofs.Words.{ap, goes, put_damage, seeing, ℕ, ◌∙◌}
use Rattle.gen1_machine.specs.HitEffects.{drain, drain_by}
use Rattle.gen1_multiturn.proofs.move_hits.hit_effects.drain.Goals as goal

pub returns-clause-shown : goal.returns-clause-shown
unfolding drain drain_by
returns-clause-shown t c g p h =
    let a = put_damage h c.half_of-half.result (c.put_last_damage.ensures.stands _ _ h.within) in
    seeing _ (drain_by c.args.side) (c.half_of-half.ensures ∙ ap (λ (n : ℕ). max 1 (n / 2)) (c.last_damage.ensures.stands _ _ h.within))
    (goes _ _ a (c.gain_hp.ensures.shown g _ a))
