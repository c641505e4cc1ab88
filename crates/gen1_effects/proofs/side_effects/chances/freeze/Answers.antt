use Rattle.gen1_layout.proofs.Words.{goes, lit<, put_on_conditions, refl, sym, ◌∙◌}
use Rattle.gen1_machine.specs.Conditions.{without_recharge}
use Rattle.gen1_machine.specs.Ruling.{freeze_freely}
use Rattle.gen1_machine.specs.Sides.{other}
use Rattle.gen1_status.proofs.Statuses.{recharge-same}
use Rattle.gen1_effects.proofs.SideEffects.{freezes, refuses}
use Rattle.gen1_effects.proofs.side_effects.chances.freeze.Goals as goal

pub returns-then-is_refused-clause-shown : goal.returns-then-is_refused-clause-shown
returns-then-is_refused-clause-shown t c g p h =
    let is = rw c.other-foe.ensures at (c.is_refused.ensures.stands _ _ h.within) in
    refuses g.setting.terms.rules.freeze_clause c.args.side p (sym is ∙ c.if-is_refused.true) h

pub returns-clause-shown : goal.returns-clause-shown
unfolding freeze_freely without_recharge
returns-clause-shown t c g p h =
    let s = c.args.side in
    let is = rw c.other-foe.ensures at (c.is_refused.ensures.stands _ _ h.within) in
    let w = rw c.other-foe.ensures at (c.put_flag.ensures.stands 10 refl (lit< tt) _ p.field without_recharge h.within refl (recharge-same _)) in
    let a = put_on_conditions h (other s) without_recharge w in
    let does = rw c.other-foe.ensures at (c.inflict.ensures.shown tt) in
    freezes g.setting.terms.rules.freeze_clause s p (sym is ∙ c.if-is_refused.false) (goes _ _ a (does g _ a))
