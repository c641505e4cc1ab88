use Rattle.gen1_layout.proofs.Words.{active_in, active_ok, ap, length, member_in, member_ok, refl, subst, sym, ◌∙◌}
use Rattle.gen1_machine.specs.declared.side.UsedMove.{UsedMove}
use Rattle.gen1_machine.specs.Picks.{number_in}
use Rattle.gen1_machine.specs.Valid.{IsUsedMove}
use Rattle.gen1_multiturn.proofs.MoveHits.{number-small}
use Rattle.gen1_multiturn.proofs.moves.special_damage.can_counter.Goals as goal

pub returns : goal.returns
returns c = record {
  stands = λ g f h.
      let foe = c.other-foe.result in
      let moves = (member_in foe f).moves in
      let fits = (active_ok foe h).picked_move in
      let move = c.picked_move.ensures.stands _ _ h in
      let number = c.number_of-picked.ensures.stands _ _ h (subst (λ (u : UsedMove). IsUsedMove (length moves) u) (sym move) fits) in
      let picked = number ∙ ap (λ (u : UsedMove). number_in u moves) move in
      let small = number-small (active_in foe f).picked_move moves (member_ok foe h).moves fits in
      rw (c.can_be_countered.ensures (rw picked small), picked, c.last_damage-hurt.ensures.stands g f h, c.other-foe.ensures) refl;
}
