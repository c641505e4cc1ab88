use Rattle.gen1_layout.proofs.Words.{Active, active_ok, ap, length, member_in, on_active, put_on_active, refl, seeing, subst, sym, ◌∙◌}
use Rattle.gen1_machine.specs.declared.side.Pick.TheVariants.{Held, Use}
use Rattle.gen1_machine.specs.declared.side.UsedMove.{UsedMove}
use Rattle.gen1_machine.specs.declared.side.UsedMove.TheVariants.{Nothing}
use Rattle.gen1_machine.specs.Picks.{number_in}
use Rattle.gen1_machine.specs.Progress.{active}
use Rattle.gen1_machine.specs.State.{with_picked_move}
use Rattle.gen1_machine.specs.Turn.{set_picked}
use Rattle.gen1_machine.specs.TurnOrder.{rank}
use Rattle.gen1_machine.specs.Valid.{IsUsedMove}
use Rattle.gen1_turn.proofs.Turns.{picked-now, still_picked}
use Rattle.gen1_turn.proofs.turn_update.choices.settle_pick.Goals as goal

pub returns-in-Use : goal.returns-in-Use
unfolding set_picked with_picked_move
returns-in-Use c =
    let s = c.args.side in
    let used = c.in-Use.used in
    record {
      shown = λ told g p fits h.
          rw c.in-Use.is (seeing (active s) (λ (a : Active). on_active s (with_picked_move used)) refl
          (put_on_active h s (with_picked_move used) (c.put_picked_move.ensures.stands _ _ (with_picked_move used) h.within refl (rw c.in-Use.is at fits))));
      ranks = λ told g p fits h.
          let put = seeing (active s) (λ (a : Active). on_active s (with_picked_move used)) refl
          (put_on_active h s (with_picked_move used) (c.put_picked_move.ensures.stands _ _ (with_picked_move used) h.within refl (rw c.in-Use.is at fits))) in
          let now = picked-now s (Use used) p in
          let fit = subst (λ (u : UsedMove). IsUsedMove (length (member_in s (set_picked s (Use used) p).field).moves) u) now (active_ok s put.within).picked_move in
          let number = c.number_of.ensures.stands _ _ put.within fit in
          rw c.in-Use.is (c.rank.ensures ∙ ap rank (number ∙ ap (λ (u : UsedMove). number_in u (member_in s (set_picked s (Use used) p).field).moves) (sym now)));
    }

pub returns-in-Held : goal.returns-in-Held
unfolding set_picked with_picked_move
returns-in-Held c =
    let s = c.args.side in
    record {
      shown = λ told g p fits h.
          rw c.in-Held.is (seeing (active s) (λ (a : Active). on_active s (with_picked_move Nothing)) refl
          (put_on_active h s (with_picked_move Nothing) (c.put_picked_move-in-Held.ensures.stands _ _ (with_picked_move Nothing) h.within refl tt)));
      ranks = λ told g p fits h.
          rw c.in-Held.is (c.rank-in-Held.ensures ∙ ap (λ (u : UsedMove). rank (number_in u (member_in s (set_picked s Held p).field).moves)) (sym (picked-now s Held p)));
    }

pub returns-in-Continue : goal.returns-in-Continue
unfolding set_picked
returns-in-Continue c = record {
  shown = λ told g p fits h. rw c.in-Continue.is (still_picked c.args.side p h);
  ranks = λ told g p fits h. rw c.in-Continue.is (c.rank_of.ensures.stands _ _ (still_picked c.args.side p h).within);
}

pub returns-in-Idle : goal.returns-in-Idle
unfolding set_picked
returns-in-Idle c = record {
  shown = λ told g p fits h. rw c.in-Idle.is (still_picked c.args.side p h);
  ranks = λ told g p fits h. rw c.in-Idle.is (c.rank_of-in-Idle.ensures.stands _ _ (still_picked c.args.side p h).within);
}
