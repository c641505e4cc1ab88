use Rattle.gen1_layout.proofs.Words.{goes, if_not, if_so, lit≤, put_on_conditions, refl, stays, sym, ◌∙◌}
use Rattle.gen1_machine.specs.Conditions.{with_bad_poison}
use Rattle.gen1_effects.proofs.early_effects.status_moves.poison.Goals as goal

pub returns-then-is_toxic-clause-shown : goal.returns-then-is_toxic-clause-shown
unfolding with_bad_poison
returns-then-is_toxic-clause-shown t c g p h =
    let a = c.inflict.ensures.shown tt g p h in
    let w = c.put_bad_poison.ensures.stands _ _ with_bad_poison a.within refl (lit≤ tt, lit≤ tt) in
    goes _ _ a (if_so _ _ _ (sym c.is_toxic.ensures ∙ c.if-is_toxic.true) (put_on_conditions a c.args.side with_bad_poison w))

pub returns-else-is_toxic-clause-shown : goal.returns-else-is_toxic-clause-shown
returns-else-is_toxic-clause-shown t c g p h =
    let a = c.inflict.ensures.shown tt g p h in
    goes _ _ a (if_not _ _ _ (sym c.is_toxic.ensures ∙ c.if-is_toxic.false) (stays a))
