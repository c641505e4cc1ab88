use Rattle.gen1_layout.proofs.Words.{ap, ◌∙◌}
use Rattle.gen1_machine.specs.State.{is_over}
use Rattle.gen1_turn.proofs.TwoParts.{shown-resumed}
use Rattle.gen1_turn.proofs.action.two_parts.end_action.Goals as goal

pub returns : goal.returns
returns c = record {
  shown = λ g p events stopped tested h.
      let kept = c.keep_accuracy.ensures.shown g p events stopped tested h in
      shown-resumed (c.is_over.ensures ∙ ap is_over (c.outcome.ensures.stands _ _ kept.within)) kept;
}
