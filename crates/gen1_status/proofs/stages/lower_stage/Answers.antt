use Rattle.std.proofs.Common.{◌+◌, ◌-◌, ◌≡◌}
use Rattle.gen1_layout.proofs.Words.{active_in, active_ok, arith, false, given, member_in, nat_le, nat_tests, put_on_active, quietly, sym, true, ◌∙◌}
use Rattle.gen1_machine.specs.CurrentStats.{at_new_stage, penalties_of, unmodified}
use Rattle.gen1_machine.specs.StageShift.{lower_from, lower_stage, note_unboost, stage_in}
use Rattle.gen1_status.proofs.Statuses.{stage_of-fits}
use Rattle.gen1_status.proofs.Shifting.{at_new_stage-is, now-at_new_stage, stands_at-now, moves_back, moves_on, stays_last, least_stays}
use Rattle.gen1_status.proofs.stages.lower_stage.Goals as goal

pub returns-then-stage-eq-LOWEST_STAGE-clause-shown : goal.returns-then-stage-eq-LOWEST_STAGE-clause-shown
unfolding lower_stage lower_from given
returns-then-stage-eq-LOWEST_STAGE-clause-shown t c by failing g p h =
    let at = c.stage-stage.ensures.stands _ _ h.within in
    let lowest : nat_le (stage_in c.args.stat c.args.target p.field) 0 ≡ true = grind (arith, nat_tests) in
    stays_last c.args.user c.args.target c.args.stat (note_unboost c.args.target c.args.stat) _ _ _ _ _ _ failing p lowest h

pub returns-then-stands_at-clause-shown : goal.returns-then-stands_at-clause-shown
unfolding lower_stage lower_from given
returns-then-stands_at-clause-shown t c by failing g p h =
    let s = c.args.target in
    let stat = c.args.stat in
    let a = active_in s p.field in
    let m = member_in s p.field in
    let n = stage_in stat s p.field in
    let back = c.saturating_add-risen_back.result in
    let at = c.stage-stage.ensures.stands _ _ h.within in
    let most = stage_of-fits stat a.stages (active_ok s h.within).stages in
    let high : nat_le n 0 ≡ false = grind (arith, nat_tests) in
    let least = sym (c.stands_at.ensures.stands _ _ h.within) ∙ c.if-stands_at.true in
    let is : back ≡ n - c.args.by + 1 = omega arith in
    let told : c.saturating_sub-net.result ≡ n - (n - c.args.by + 1) = omega arith in
    let stays = least_stays stat (unmodified stat m) n back (penalties_of stat a) most (omega arith) (omega arith) (stands_at-now 1 stat s p.field least) in
    let put = put_on_active h s (at_new_stage stat back)
    (c.put_stage.ensures.stands _ _ (at_new_stage stat back) (penalties_of stat a) h.within (at_new_stage-is stat back a) (λ number. sym (now-at_new_stage stat back m a ∙ stays)) (omega arith)) in
    moves_back c.args.user s stat (note_unboost s stat) _ _ _ _ _ _ failing p high least is told put (c.note_unboost.ensures.shown (omega arith) g _ put)

pub returns-clause-shown : goal.returns-clause-shown
unfolding lower_stage lower_from given
returns-clause-shown t c by failing g p h =
    let n = stage_in c.args.stat c.args.target p.field in
    let at = c.stage-stage.ensures.stands _ _ h.within in
    let most = stage_of-fits c.args.stat (active_in c.args.target p.field).stages (active_ok c.args.target h.within).stages in
    let high : nat_le n 0 ≡ false = grind (arith, nat_tests) in
    let more = sym (c.stands_at.ensures.stands _ _ h.within) ∙ c.if-stands_at.false in
    let is : c.saturating_sub-lowered.result ≡ n - c.args.by = omega arith in
    let told : c.saturating_sub.result ≡ n - (n - c.args.by) = omega arith in
    let shifted = quietly h (c.shift_to.ensures p.events (omega arith) g p) in
    moves_on c.args.user c.args.target c.args.stat (note_unboost c.args.target c.args.stat) _ _ _ _ _ _ failing p high more is told shifted
    (c.note_unboost-2.ensures.shown (omega arith) g _ shifted)
