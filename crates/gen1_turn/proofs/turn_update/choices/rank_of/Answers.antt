use Rattle.gen1_layout.proofs.Words.{active_ok, ap, length, member_in, subst, sym, ◌∙◌}
use Rattle.gen1_machine.specs.declared.side.UsedMove.{UsedMove}
use Rattle.gen1_machine.specs.Picks.{number_in}
use Rattle.gen1_machine.specs.TurnOrder.{rank}
use Rattle.gen1_machine.specs.Valid.{IsUsedMove}
use Rattle.gen1_turn.proofs.turn_update.choices.rank_of.Goals as goal

pub returns : goal.returns
returns c = record {
  stands = λ g f h.
      let picked = c.picked_move.ensures.stands _ _ h in
      let used = subst (λ (u : UsedMove). IsUsedMove (length (member_in c.args.side f).moves) u) (sym picked) (active_ok c.args.side h).picked_move in
      c.rank.ensures ∙ ap rank (c.number_of.ensures.stands _ _ h used ∙ ap (λ (u : UsedMove). number_in u (member_in c.args.side f).moves) picked);
}
