use Rattle.gen1_layout.proofs.Words.{ap, if_not, if_so, put_on_conditions, refl, stays, sym, ◌∙◌}
use Rattle.gen1_machine.specs.Conditions.{without_trapping}
use Rattle.gen1_machine.specs.Turn.{end_spent_trapping, is_spent}
use Rattle.gen1_turn.proofs.turn_update.parts.end_spent_trapping.Goals as goal

pub returns-then-is_spent : goal.returns-then-is_spent
unfolding end_spent_trapping without_trapping
returns-then-is_spent c = record {
  shown = λ events g p h. if_so _ _ _ (sym (c.is_spent.ensures ∙ ap is_spent (c.trapping.ensures.stands _ _ h.within)) ∙ c.if-is_spent.true)
      (put_on_conditions h c.args.side without_trapping (c.end_trapping.ensures.stands _ _ without_trapping h.within refl));
}

pub returns-else-is_spent : goal.returns-else-is_spent
unfolding end_spent_trapping
returns-else-is_spent c = record {
  shown = λ events g p h. if_not _ _ _ (sym (c.is_spent.ensures ∙ ap is_spent (c.trapping.ensures.stands _ _ h.within)) ∙ c.if-is_spent.false) (stays h);
}
