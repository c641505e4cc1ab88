use Rattle.gen1_layout.proofs.Words.{Field, Within, active_ok, length, member_in, put_on_member, refl, subst, sym, ◌∙◌}
use Rattle.gen1_machine.specs.declared.side.UsedMove.{UsedMove}
use Rattle.gen1_machine.specs.declared.side.UsedMove.TheVariants.{Nothing, Struggle}
use Rattle.gen1_machine.specs.State.{with_pp_spent}
use Rattle.gen1_machine.specs.Valid.{IsUsedMove}
use Rattle.gen1_turn.proofs.Turns.{unchanged-member}
use Rattle.gen1_turn.proofs.action.lead_up.spend_pp.Goals as goal

pub returns-in-Nothing : goal.returns-in-Nothing
unfolding with_pp_spent
returns-in-Nothing c = record {
  shown = λ told g p is h.
      let s = c.args.side in
      rw c.in-Nothing.is
      (put_on_member h s (with_pp_spent Nothing) (subst (λ (f : Field). Within g.setting c.args.battle.now f) (sym (unchanged-member s (with_pp_spent Nothing) p.field refl)) h.within));
}

pub returns-in-Struggle : goal.returns-in-Struggle
unfolding with_pp_spent
returns-in-Struggle c = record {
  shown = λ told g p is h.
      let s = c.args.side in
      rw c.in-Struggle.is
      (put_on_member h s (with_pp_spent Struggle) (subst (λ (f : Field). Within g.setting c.args.battle.now f) (sym (unchanged-member s (with_pp_spent Struggle) p.field refl)) h.within));
}

pub returns-in-Slot : goal.returns-in-Slot
returns-in-Slot c = record {
  shown = λ told g p is h.
      let s = c.args.side in
      let fits = subst (λ (u : UsedMove). IsUsedMove (length (member_in s p.field).moves) u) (is ∙ c.in-Slot.is) (active_ok s h.within).current_move in
      rw c.in-Slot.is (c.spend_pp_of.ensures.shown told g p fits h);
}
