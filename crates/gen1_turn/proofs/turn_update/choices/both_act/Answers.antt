use Rattle.std.proofs.Common.{◌∷◌}
use Rattle.gen1_layout.proofs.Words.{[], Phase, quietly, subst, sym, ◌∙◌}
use Rattle.gen1_machine.specs.Ruling.{ruling_of}
use Rattle.gen1_machine.specs.Sides.{other}
use Rattle.gen1_machine.specs.Turn.{do_part, do_parts, end_turn, Acts, Suffers}
use Rattle.gen1_machine.specs.Plans.{with_plan, Any, FitsPick, Plan}
use Rattle.gen1_machine.proofs.ValidSteps.{act_part, suffers_part, with_plan-other}
use Rattle.gen1_turn.proofs.Turns.{cut_short, ended, ended_uncut, ends_as}
use Rattle.gen1_rolls.specs.Draws.{by_then}
use Rattle.gen1_turn.proofs.turn_update.choices.both_act.Goals as goal

pub returns-then-act_and_suffer-clause-shown : goal.returns-then-act_and_suffer-clause-shown
unfolding do_parts do_part
returns-then-act_and_suffer-clause-shown t c since g p plan (mine, others) v h =
    let s = c.args.side in (
      (rw c.if-act_and_suffer.true at (c.act_and_suffer.ensures.shown since g p plan mine v h))
          (do_parts (ruling_of g.setting.terms) (Acts (other s) c.args.others ∷ Suffers (other s) ∷ [])),
      λ e. cut_short e,
    )

pub returns-then-act_and_suffer-2-clause-shown : goal.returns-then-act_and_suffer-2-clause-shown
unfolding do_parts do_part
returns-then-act_and_suffer-2-clause-shown t c since g p plan (mine, others) v h =
    let terms = g.setting.terms in
    let s = c.args.side in
    let rest : Phase = do_parts (ruling_of terms) (Acts (other s) c.args.others ∷ Suffers (other s) ∷ []) in
    let a = rw c.if-act_and_suffer.false at (c.act_and_suffer.ensures.shown (by_then c.act_and_suffer-2.ensures.steps since) g p plan mine v h) in
    let valid = (suffers_part terms (with_plan s Any plan) s).kept _ ((act_part terms plan s c.args.mine mine).led p v) in
    let next = subst (λ (x : Plan). FitsPick c.args.others x) (sym (with_plan-other s Any plan)) others in
    let second = rw c.other.ensures at c.act_and_suffer-2.ensures.shown in
    let b = rw c.if-act_and_suffer-2.true at (second since g _ (with_plan s Any plan) next valid a.0) in
    (ends_as c.act_and_suffer-2.new.known g _ _ (a.2 rest) (b end_turn), λ e. cut_short e)

pub returns-clause-shown : goal.returns-clause-shown
unfolding do_parts do_part
returns-clause-shown t c since g p plan (mine, others) v h =
    let terms = g.setting.terms in
    let s = c.args.side in
    let rest : Phase = do_parts (ruling_of terms) (Acts (other s) c.args.others ∷ Suffers (other s) ∷ []) in
    let a = rw c.if-act_and_suffer.false at (c.act_and_suffer.ensures.shown (by_then c.act_and_suffer-2.ensures.steps since) g p plan mine v h) in
    let valid = (suffers_part terms (with_plan s Any plan) s).kept _ ((act_part terms plan s c.args.mine mine).led p v) in
    let next = subst (λ (x : Plan). FitsPick c.args.others x) (sym (with_plan-other s Any plan)) others in
    let second = rw c.other.ensures at c.act_and_suffer-2.ensures.shown in
    let b = rw c.if-act_and_suffer-2.false at (second since g _ (with_plan s Any plan) next valid a.0) in
    let is = a.2 rest ∙ b.2 end_turn in (
      ends_as c.act_and_suffer-2.new.known g _ _ is (ended c.act_and_suffer-2.new.known g end_turn (λ g p k. quietly k (c.end_turn.ensures.shown _ g p)) b.0),
      λ e. ended_uncut _ _ is b.0.1.shows.ends b.1,
    )
