use Rattle.gen1_layout.proofs.Words.{if_not, if_so, lit<, put_on_conditions, refl, stays, sym, ◌∙◌}
use Rattle.gen1_machine.specs.Conditions.{with_invulnerability}
use Rattle.gen1_multiturn.proofs.Underways.{hidden-same}
use Rattle.gen1_multiturn.proofs.moves.charging.hide.Goals as goal

pub returns-then-hides : goal.returns-then-hides
unfolding with_invulnerability
returns-then-hides c = record {
  shown = λ events g p h.
      if_so _ _ _ (sym c.hides.ensures ∙ c.if-hides.true)
      (put_on_conditions h c.args.side with_invulnerability (c.put_flag.ensures.stands 5 refl (lit< tt) _ _ with_invulnerability h.within refl (hidden-same _)));
}

pub returns-else-hides : goal.returns-else-hides
returns-else-hides c = record { shown = λ events g p h. if_not _ _ _ (sym c.hides.ensures ∙ c.if-hides.false) (stays h) }
