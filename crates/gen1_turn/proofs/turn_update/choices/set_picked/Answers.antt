use Rattle.gen1_layout.proofs.Words.{Active, active_in, length, member_in, on_active, put_on_active, refl, seeing, subst}
use Rattle.gen1_machine.specs.declared.side.Pick.{Pick}
use Rattle.gen1_machine.specs.declared.side.UsedMove.TheVariants.{Nothing}
use Rattle.gen1_machine.specs.Picks.{picked_after}
use Rattle.gen1_machine.specs.State.{with_picked_move}
use Rattle.gen1_machine.specs.Progress.{active}
use Rattle.gen1_machine.specs.Turn.{set_picked}
use Rattle.gen1_machine.specs.Valid.{IsUsedMove}
use Rattle.gen1_turn.proofs.Turns.{still_picked}
use Rattle.gen1_turn.proofs.turn_update.choices.set_picked.Goals as goal

pub returns-in-Use : goal.returns-in-Use
unfolding set_picked with_picked_move
returns-in-Use c = record {
  shown = λ told g p fits h.
      let s = c.args.side in
      let used = c.in-Use.used in
      let there = subst (λ (k : Pick). IsUsedMove (length (member_in s p.field).moves) (picked_after k (active_in s p.field).picked_move)) c.in-Use.is fits in
      rw (c.in-Use.is) (seeing (active s) (λ (a : Active). on_active s (with_picked_move used)) refl
      (put_on_active h s (with_picked_move used) (c.put_picked_move.ensures.stands _ _ (with_picked_move used) h.within refl there)));
}

pub returns-in-Held : goal.returns-in-Held
unfolding set_picked with_picked_move
returns-in-Held c = record {
  shown = λ told g p fits h.
      let s = c.args.side in
      rw (c.in-Held.is) (seeing (active s) (λ (a : Active). on_active s (with_picked_move Nothing)) refl
      (put_on_active h s (with_picked_move Nothing) (c.put_picked_move-in-Held.ensures.stands _ _ (with_picked_move Nothing) h.within refl tt)));
}

pub returns-in-Continue : goal.returns-in-Continue
unfolding set_picked
returns-in-Continue c = record { shown = λ told g p fits h. rw (c.in-Continue.is) (still_picked c.args.side p h) }

pub returns-in-Idle : goal.returns-in-Idle
unfolding set_picked
returns-in-Idle c = record { shown = λ told g p fits h. rw (c.in-Idle.is) (still_picked c.args.side p h) }
