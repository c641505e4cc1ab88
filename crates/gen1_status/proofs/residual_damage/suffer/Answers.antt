use Rattle.gen1_machine.specs.ResidualDamage.{suffer}
use Rattle.gen1_layout.proofs.Chain.{goes, quietly, seeing}
use Rattle.gen1_status.proofs.residual_damage.suffer.Goals as goal

pub returns-clause-shown : goal.returns-clause-shown
unfolding suffer
returns-clause-shown t c g p h =
    let a = quietly h (c.worsen.ensures p.events g p) in
    goes _ _ a (seeing _ _ (c.residual_amount-amount.ensures.stands _ _ a.within) (c.lose_hp.ensures.shown g _ a))
