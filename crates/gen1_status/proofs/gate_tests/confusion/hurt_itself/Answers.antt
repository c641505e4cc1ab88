use Rattle.gen1_layout.proofs.Words.{lit<, put_on_conditions, refl, stop}
use Rattle.gen1_machine.specs.Conditions.{broken_off, without_flinch, without_invulnerability}
use Rattle.gen1_machine.specs.Damage.{before_types, DamageNumbers}
use Rattle.gen1_machine.specs.HitOnItself.{hurt_itself, hurt_itself_by}
use Rattle.gen1_machine.proofs.Keeps.{on_conditions-keeps}
use Rattle.gen1_status.proofs.Statuses.{flinch-same, invulnerability-same}
use Rattle.gen1_status.proofs.Told.{conditions-spare, tells_given, then_tells}
use Rattle.gen1_status.proofs.gate_tests.confusion.hurt_itself.Goals as goal

pub returns-clause-shown : goal.returns-clause-shown
unfolding hurt_itself without_flinch without_invulnerability
returns-clause-shown t c g p h =
    let s = c.args.side in
    let a = put_on_conditions h s broken_off (c.break_off.ensures.stands _ _ h.within) in
    let b = put_on_conditions a s without_flinch (c.put_flag.ensures.stands 3 refl (lit< tt) _ _ without_flinch a.within refl (flinch-same _)) in
    let d = put_on_conditions b s without_invulnerability (c.put_flag-2.ensures.stands 5 refl (lit< tt) _ _ without_invulnerability b.within refl (invulnerability-same _)) in
    let told = c.hurt_itself_by.ensures.shown _ _ d in
    then_tells _ _ (on_conditions-keeps s broken_off (conditions-spare _ s broken_off)) a
    (then_tells _ _ (on_conditions-keeps s without_flinch (conditions-spare _ s without_flinch)) b
    (then_tells _ _ (on_conditions-keeps s without_invulnerability (conditions-spare _ s without_invulnerability)) d
    (tells_given _ (λ (n : DamageNumbers). hurt_itself_by s (before_types n)) stop (c.own_numbers-numbers.ensures.stands _ _ d.within) (rw c.damage.ensures.is at told))))
