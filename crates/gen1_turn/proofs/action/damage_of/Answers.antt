use Rattle.gen1_layout.proofs.Words.{ap, inl, refl, sym, ◌∙◌}
use Rattle.gen1_turn.specs.Action.{way_of}
use Rattle.gen1_turn.proofs.Damage.{damage-by}
use Rattle.gen1_turn.proofs.action.damage_of.Goals as goal

pub returns-in-Counter-clause-shown : goal.returns-in-Counter-clause-shown
returns-in-Counter-clause-shown t c events since g p h = rw (damage-by c.args.side _ _ _ (sym (c.way_of.ensures ∙ ap way_of c.effect.ensures) ∙ c.in-Counter.is)) (_, c.counter_knowing.ensures.shown events since g p h, (inl refl, λ late. refl))

pub returns-in-Fixed-clause-shown : goal.returns-in-Fixed-clause-shown
returns-in-Fixed-clause-shown t c events since g p h = rw (damage-by c.args.side _ _ _ (sym (c.way_of.ensures ∙ ap way_of c.effect.ensures) ∙ c.in-Fixed.is)) (_, c.fixed_knowing.ensures.shown events since g p h, (inl refl, λ late. refl))

pub returns-in-KnockOut-clause-shown : goal.returns-in-KnockOut-clause-shown
returns-in-KnockOut-clause-shown t c events since g p h = rw (damage-by c.args.side _ _ _ (sym (c.way_of.ensures ∙ ap way_of c.effect.ensures) ∙ c.in-KnockOut.is)) (_, c.knock_out.ensures.shown events since g p h, (inl refl, λ late. refl))

pub returns-in-Usual-clause-shown : goal.returns-in-Usual-clause-shown
returns-in-Usual-clause-shown t c events since g p h = rw (damage-by c.args.side _ _ _ (sym (c.way_of.ensures ∙ ap way_of c.effect.ensures) ∙ c.in-Usual.is)) (c.damage_by_power.ensures.shown events since g p h)
