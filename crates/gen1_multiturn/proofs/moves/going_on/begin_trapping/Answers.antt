use Rattle.std.proofs.Common.{◌+◌}
use Rattle.gen1_layout.proofs.Words.{ap, arith, conditions_in, drawn_goes, lit<, on_conditions, on_field, put_on_conditions, refl, still, ◌∙◌}
use Rattle.gen1_machine.specs.Conditions.{with_trapping, without_recharge, Underway}
use Rattle.gen1_machine.specs.GoingOn.{trap_for}
use Rattle.gen1_status.proofs.Statuses.{recharge-same}
use Rattle.gen1_multiturn.proofs.Underways.{foe-apart}
use Rattle.gen1_multiturn.proofs.moves.going_on.begin_trapping.Goals as goal

pub returns-clause-shown : goal.returns-clause-shown
unfolding trap_for without_recharge with_trapping on_conditions on_field
returns-clause-shown t c events since g p bide thrash h =
    let s = c.args.side in
    let foe = c.other.result in
    let w = c.put_flag.ensures.stands 10 refl (lit< tt) _ p.field without_recharge h.shows.within refl (recharge-same (conditions_in foe p.field)) in
    let a = still h (put_on_conditions h.shows foe without_recharge w) in
    let same = foe-apart s foe without_recharge p.field c.other.ensures in
    let counted = c.draw_count-count.ensures.shown since g _ _ _ a in
    let b = counted.1 in
    let v = c.put_trapping.ensures.stands _ _ (with_trapping (c.draw_count-count.result + 1)) b.shows.within refl (omega (arith, c.draw_count-count.ensures.most))
    (ap (λ (u : Underway). u.bide) same ∙ bide) (ap (λ (u : Underway). u.thrash) same ∙ thrash) in
    rw (← c.other.ensures) (drawn_goes _ _ a (rw (counted.2 (trap_for s)) (still b (put_on_conditions b.shows s (with_trapping (c.draw_count-count.result + 1)) v))))
