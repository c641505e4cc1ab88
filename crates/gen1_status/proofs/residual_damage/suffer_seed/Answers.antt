use Rattle.gen1_machine.specs.ResidualDamage.{drained_by, suffer_seed}
use Rattle.gen1_layout.proofs.Chain.{goes, quietly, seeing}
use Rattle.gen1_status.proofs.residual_damage.suffer_seed.Goals as goal

pub returns-clause-shown : goal.returns-clause-shown
unfolding suffer_seed drained_by
returns-clause-shown t c g p h =
    let a = quietly h (c.worsen.ensures p.events g p) in
    let b = c.lose_hp.ensures.shown g _ a in
    goes _ _ a
    (seeing _ (drained_by c.args.side) (c.residual_amount-amount.ensures.stands _ _ a.within) (goes _ _ b (rw (← c.other.ensures) (c.gain_hp.ensures.shown g _ b))))
