use Rattle.std.proofs.Common.{◌≡◌}
use Rattle.gen1_layout.proofs.Words.{Active, active_in, length, member_in, on_active, put_on_active, refl, seeing, subst, sym}
use Rattle.gen1_machine.specs.declared.side.UsedMove.{UsedMove}
use Rattle.gen1_machine.specs.Picks.{used_by}
use Rattle.gen1_machine.specs.State.{with_current_move}
use Rattle.gen1_machine.specs.Progress.{active}
use Rattle.gen1_machine.specs.Charging.{make_current}
use Rattle.gen1_machine.specs.Valid.{IsUsedMove}
use Rattle.gen1_multiturn.proofs.moves.charging.make_current.Goals as goal

pub returns : goal.returns
unfolding make_current with_current_move
returns c =
    record {
      shown = λ told g p fits h.
          let same : c.used_by-used.result ≡ used_by c.args.pick (active_in c.args.side p.field).current_move = c.used_by-used.ensures.stands _ _ h.within in
          let used = subst (λ (u : UsedMove). IsUsedMove (length (member_in c.args.side p.field).moves) u) (sym same) fits in
          seeing (active c.args.side) (λ (a : Active). on_active c.args.side (with_current_move (used_by c.args.pick a.current_move))) refl
          (rw (← same) (put_on_active h c.args.side (with_current_move c.used_by-used.result) (c.put_current_move.ensures.stands _ _ (with_current_move c.used_by-used.result) h.within refl used)));
    }
