use Rattle.std.proofs.Common.{◌∷◌}
use Rattle.gen1_layout.proofs.Words.{[], Phase, Progress, quietly, still, subst, sym, then-goes, ◌∙◌}
use Rattle.gen1_machine.specs.ResidualDamage.{residual}
use Rattle.gen1_machine.specs.Ruling.{ruling_of}
use Rattle.gen1_machine.specs.Sides.{other}
use Rattle.gen1_machine.specs.Turn.{do_part, do_parts, end_spent_trapping, end_turn, one_picks, set_picked, Acts, Sends, Suffers}
use Rattle.gen1_machine.specs.Plans.{with_plan, Any, FitsPick, Plan}
use Rattle.gen1_machine.proofs.ValidSteps.{act_part, send_part, set_picked-keeps, suffers_part}
use Rattle.gen1_hits.specs.Knowing.{knowing, with_broke}
use Rattle.gen1_turn.proofs.Living.{picked-may, picked-whole}
use Rattle.gen1_turn.proofs.Trapping.{end-one, idle-planned, idle-untrapped, idle_plan, own-plan, sends-nothing}
use Rattle.gen1_turn.proofs.Turns.{cut_short, ended, ended_uncut, ends_as, ends_still, over_still, picked-fits}
use Rattle.gen1_turn.proofs.turn_update.choices.one_picks.Goals as goal

pub returns-then-sends_and_suffers-clause-shown : goal.returns-then-sends_and_suffers-clause-shown
unfolding one_picks do_parts do_part
returns-then-sends_and_suffers-clause-shown t c since g p plan (fits, any, may, whole) v h =
    let terms = g.setting.terms in
    let s = c.args.side in
    let k = c.sends_and_suffers.new.known in
    let rest : Phase = do_parts (ruling_of terms) (Acts s c.args.pick ∷ Suffers s ∷ []) in
    let a = still {g' = knowing (with_broke h.0 c.args.known.now) g} h.1 (quietly h.1.shows (c.set_picked.ensures.shown _ _ _ (picked-fits terms plan s c.args.pick p fits v))) in
    let first = rw c.other.ensures at c.sends_and_suffers.ensures.shown in
    let x = rw c.if-sends_and_suffers.true at (first (record g { stream = since.source.stream; drawn = (set_picked s c.args.pick p).drawn }) _ h.0 (ruling_of terms) (picked-may s (other s) c.args.pick c.args.place p may) (picked-whole s c.args.pick p whole) a.shows) in
    (ends_as k g _ _ (then-goes (set_picked s c.args.pick) _ p a.shows.ends) (ends_still c.args.known.now k g a (x rest)), λ e. cut_short e)

pub returns-then-act_and_suffer-clause-shown : goal.returns-then-act_and_suffer-clause-shown
unfolding one_picks do_parts do_part
returns-then-act_and_suffer-clause-shown t c since g p plan (fits, any, may, whole) v h =
    let terms = g.setting.terms in
    let s = c.args.side in
    let k = c.sends_and_suffers.new.known in
    let rest : Phase = do_parts (ruling_of terms) (Acts s c.args.pick ∷ Suffers s ∷ []) in
    let a = still {g' = knowing (with_broke h.0 c.args.known.now) g} h.1 (quietly h.1.shows (c.set_picked.ensures.shown _ _ _ (picked-fits terms plan s c.args.pick p fits v))) in
    let va = (set_picked-keeps terms plan s c.args.pick fits).kept p v in
    let sends = picked-may s (other s) c.args.pick c.args.place p may in
    let first = rw c.other.ensures at c.sends_and_suffers.ensures.shown in
    let x = rw c.if-sends_and_suffers.false at (first (record g { stream = since.source.stream; drawn = (set_picked s c.args.pick p).drawn }) _ h.0 (ruling_of terms) sends (picked-whole s c.args.pick p whole) a.shows) in
    let vx = (suffers_part terms plan (other s)).kept _ ((send_part terms plan (other s) c.args.place any).led _ (va, sends.0)) in
    let y = rw c.if-act_and_suffer.true at (c.act_and_suffer.ensures.shown since g _ plan fits vx (over_still c.args.known.now k g a x.0)) in
    (ends_as c.act_and_suffer.new.known g _ _ (then-goes (set_picked s c.args.pick) _ p a.shows.ends ∙ x.2 rest) (y end_turn), λ e. cut_short e)

pub returns-clause-shown : goal.returns-clause-shown
unfolding one_picks do_parts do_part
returns-clause-shown t c since g p plan (fits, any, may, whole) v h =
    let terms = g.setting.terms in
    let s = c.args.side in
    let k = c.sends_and_suffers.new.known in
    let rest : Phase = do_parts (ruling_of terms) (Acts s c.args.pick ∷ Suffers s ∷ []) in
    let a = still {g' = knowing (with_broke h.0 c.args.known.now) g} h.1 (quietly h.1.shows (c.set_picked.ensures.shown _ _ _ (picked-fits terms plan s c.args.pick p fits v))) in
    let va = (set_picked-keeps terms plan s c.args.pick fits).kept p v in
    let sends = picked-may s (other s) c.args.pick c.args.place p may in
    let first = rw c.other.ensures at c.sends_and_suffers.ensures.shown in
    let x = rw c.if-sends_and_suffers.false at (first (record g { stream = since.source.stream; drawn = (set_picked s c.args.pick p).drawn }) _ h.0 (ruling_of terms) sends (picked-whole s c.args.pick p whole) a.shows) in
    let vx = (suffers_part terms plan (other s)).kept _ ((send_part terms plan (other s) c.args.place any).led _ (va, sends.0)) in
    let sent : Progress = residual (other s) (do_part (ruling_of terms) (Sends (other s) c.args.place) (set_picked s c.args.pick p)) in
    let done : Progress = residual s (do_part (ruling_of terms) (Acts s c.args.pick) sent) in
    let idle = idle_plan (other s) sent.field in
    let plans = with_plan (other s) idle plan in
    let vi = idle-planned plan (other s) sent (sends-nothing (ruling_of terms) (other s) c.args.place (set_picked s c.args.pick p) a.shows.ends) vx in
    let own = subst (λ (z : Plan). FitsPick c.args.pick z) (sym (own-plan s idle plan)) fits in
    let y = rw c.if-act_and_suffer.false at (c.act_and_suffer.ensures.shown since g _ plans own vi (over_still c.args.known.now k g a x.0)) in
    let vy = (suffers_part terms (with_plan s Any plans) s).kept (do_part (ruling_of terms) (Acts s c.args.pick) sent) ((act_part terms plans s c.args.pick own).led sent vi) in
    let is = then-goes (set_picked s c.args.pick) _ p a.shows.ends ∙ x.2 rest ∙ y.2 end_turn in
    let ends = is ∙ end-one s done y.0.1.shows.ends (idle-untrapped plan s sent.field done vy) in (
      ends_as c.act_and_suffer.new.known g _ _ ends
          (ended c.act_and_suffer.new.known g (end_spent_trapping s) (λ g p k. quietly k (c.end_spent_trapping.ensures.shown _ g p)) y.0),
      λ e. ended_uncut _ _ is y.0.1.shows.ends y.1,
    )
