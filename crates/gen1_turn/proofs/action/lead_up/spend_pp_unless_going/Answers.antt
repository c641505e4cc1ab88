use Rattle.gen1_layout.proofs.Words.{Action, ap, if_not, if_so, on_member, seeing, stays, sym, ◌∙◌}
use Rattle.gen1_machine.specs.declared.side.UsedMove.{UsedMove}
use Rattle.gen1_machine.specs.Action.{spend_pp}
use Rattle.gen1_machine.specs.State.{with_pp_spent}
use Rattle.gen1_turn.proofs.action.lead_up.spend_pp_unless_going.Goals as goal

pub returns-then-known : goal.returns-then-known
returns-then-known c = record { shown = λ events g p h. if_so _ _ _ (ap (λ (a : Action). a.going_on) h.action ∙ c.if-known.true) (stays h) }

pub returns : goal.returns
unfolding spend_pp
returns c = record {
  shown = λ events g p h.
      let used = c.current_move.ensures.stands _ _ h.within in
      if_not _ _ _ (ap (λ (a : Action). a.going_on) h.action ∙ c.if-known.false)
      (seeing _ (λ (u : UsedMove). on_member c.args.side (with_pp_spent u)) used (c.spend_pp.ensures.shown events _ p (sym used) h));
}
