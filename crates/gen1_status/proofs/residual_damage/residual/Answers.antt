use Rattle.gen1_layout.proofs.Words.{goes, if_not, if_so, refl, seeing, stays, sym, ◌∙◌}
use Rattle.gen1_machine.specs.ResidualDamage.{residual, suffer_status}
use Rattle.gen1_status.proofs.Told.{residual-spares}
use Rattle.gen1_status.proofs.residual_damage.residual.Goals as goal

pub returns-then-not-is_living-clause-shown : goal.returns-then-not-is_living-clause-shown
unfolding residual
returns-then-not-is_living-clause-shown t c g p h = if_not _ _ _ (sym (c.is_living.ensures.stands _ _ h.within) ∙ c.if-not-is_living.true) (stays h)

pub returns-then-not-is_on-clause-shown : goal.returns-then-not-is_on-clause-shown
unfolding residual
returns-then-not-is_on-clause-shown t c g p h =
    let a = seeing _ (suffer_status c.args.side) (c.status.ensures.stands _ _ h.within) (c.suffer_status.ensures.shown g p h) in
    if_so _ _ _ (sym (c.is_living.ensures.stands _ _ h.within) ∙ c.if-not-is_living.false)
    (goes _ _ a (if_not _ _ _ (sym (c.is_on.ensures.stands 12 refl _ _ a.within) ∙ c.if-not-is_on.true) (stays a)))

pub returns-clause-shown : goal.returns-clause-shown
unfolding residual
returns-clause-shown t c g p h =
    let a = seeing _ (suffer_status c.args.side) (c.status.ensures.stands _ _ h.within) (c.suffer_status.ensures.shown g p h) in
    if_so _ _ _ (sym (c.is_living.ensures.stands _ _ h.within) ∙ c.if-not-is_living.false)
    (goes _ _ a (if_so _ _ _ (sym (c.is_on.ensures.stands 12 refl _ _ a.within) ∙ c.if-not-is_on.false) (c.suffer_seed.ensures.shown g _ a)))

pub returns-then-not-suffers-clause-shown : goal.returns-then-not-suffers-clause-shown
returns-then-not-suffers-clause-shown t c g p h =
    rw (residual-spares c.args.side p (sym (c.suffers.ensures.stands _ _ h.within) ∙ c.if-not-suffers.true) h.ends) h
