use Rattle.gen1_layout.proofs.Words.{if_not, if_so, noted, refl, stays, sym, ◌∙◌}
use Rattle.gen1_machine.specs.declared.event.Event.TheVariants as events
use Rattle.gen1_multiturn.proofs.move_hits.note_knock_out.Goals as goal

pub returns-then-knocks_out-clause-shown : goal.returns-then-knocks_out-clause-shown
returns-then-knocks_out-clause-shown t c parts g p h =
    if_so _ _ _ (sym c.knocks_out.ensures ∙ c.if-knocks_out.true) (noted h (λ f. events.OneHitKnockOut) c.push.ensures.told refl)

pub returns-else-knocks_out-clause-shown : goal.returns-else-knocks_out-clause-shown
returns-else-knocks_out-clause-shown t c parts g p h = if_not _ _ _ (sym c.knocks_out.ensures ∙ c.if-knocks_out.false) (stays h)
