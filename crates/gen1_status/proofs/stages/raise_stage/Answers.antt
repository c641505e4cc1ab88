use Rattle.std.proofs.Common.{◌-◌, ◌≡◌}
use Rattle.gen1_layout.proofs.Words.{active_in, arith, false, given, member_in, nat_le, nat_tests, put_on_active, quietly, sym, true, ◌∙◌}
use Rattle.gen1_machine.specs.CurrentStats.{at_new_stage, penalties_of, unmodified}
use Rattle.gen1_machine.specs.StageShift.{note_boost, raise_from, raise_stage, raised, stage_in}
use Rattle.gen1_status.proofs.Shifting.{at_new_stage-is, now-at_new_stage, stands_at-now, moves_back, moves_on, stays_last, most_stays}
use Rattle.gen1_status.proofs.stages.raise_stage.Goals as goal

pub returns-then-stage-ge-HIGHEST_STAGE-clause-shown : goal.returns-then-stage-ge-HIGHEST_STAGE-clause-shown
unfolding raise_stage raise_from given
returns-then-stage-ge-HIGHEST_STAGE-clause-shown t c by failing g p h =
    let at = c.stage-stage.ensures.stands _ _ h.within in
    let highest : nat_le 12 (stage_in c.args.stat c.args.target p.field) ≡ true = grind (arith, nat_tests) in
    stays_last c.args.user c.args.target c.args.stat (note_boost c.args.target c.args.stat) _ _ _ _ _ _ failing p highest h

pub returns-then-stands_at-clause-shown : goal.returns-then-stands_at-clause-shown
unfolding raise_stage raise_from given
returns-then-stands_at-clause-shown t c by failing g p h =
    let s = c.args.target in
    let stat = c.args.stat in
    let a = active_in s p.field in
    let m = member_in s p.field in
    let n = stage_in stat s p.field in
    let back = c.saturating_sub-fallen_back.result in
    let at = c.stage-stage.ensures.stands _ _ h.within in
    let low : nat_le 12 n ≡ false = grind (arith, nat_tests) in
    let full = sym (c.stands_at.ensures.stands _ _ h.within) ∙ c.if-stands_at.true in
    let is : back ≡ raised c.args.by n - 1 = omega arith in
    let told : c.saturating_sub-net.result ≡ raised c.args.by n - 1 - n = omega arith in
    let stays = most_stays stat (unmodified stat m) n back (penalties_of stat a) (omega arith) (omega arith) (omega arith) (stands_at-now 999 stat s p.field full) in
    let put = put_on_active h s (at_new_stage stat back)
    (c.put_stage.ensures.stands _ _ (at_new_stage stat back) (penalties_of stat a) h.within (at_new_stage-is stat back a) (λ number. sym (now-at_new_stage stat back m a ∙ stays)) (omega arith)) in
    moves_back c.args.user s stat (note_boost s stat) _ _ _ _ _ _ failing p low full is told put (c.note_boost.ensures.shown (omega arith) g _ put)

pub returns-clause-shown : goal.returns-clause-shown
unfolding raise_stage raise_from given
returns-clause-shown t c by failing g p h =
    let n = stage_in c.args.stat c.args.target p.field in
    let at = c.stage-stage.ensures.stands _ _ h.within in
    let low : nat_le 12 n ≡ false = grind (arith, nat_tests) in
    let less = sym (c.stands_at.ensures.stands _ _ h.within) ∙ c.if-stands_at.false in
    let is : c.min-raised.result ≡ raised c.args.by n = omega arith in
    let told : c.saturating_sub.result ≡ raised c.args.by n - n = omega arith in
    let shifted = quietly h (c.shift_to.ensures p.events (omega arith) g p) in
    moves_on c.args.user c.args.target c.args.stat (note_boost c.args.target c.args.stat) _ _ _ _ _ _ failing p low less is told shifted
    (c.note_boost-2.ensures.shown (omega arith) g _ shifted)
