use Rattle.std.proofs.Common.{not}
use Rattle.gen1_layout.proofs.Words.{Field, Side, ap, if_not, if_so, member_in, member_ok, noted, refl, stays, sym, who_in, ◌∙◌}
use Rattle.gen1_machine.specs.declared.event.Event.TheVariants as events
use Rattle.gen1_tables.specs.Effects.{bides}
use Rattle.gen1_machine.specs.Sides.{other}
use Rattle.gen1_turn.proofs.action.lead_up.note_move.Goals as goal

pub returns-then-bides-clause-shown : goal.returns-then-bides-clause-shown
returns-then-bides-clause-shown t c g p h = if_not _ _ _ (ap not (sym (c.bides.ensures ∙ ap bides c.effect.ensures) ∙ c.if-bides.true)) (stays h)

pub returns-clause-shown : goal.returns-clause-shown
returns-clause-shown t c g p h =
    let s = c.args.side in
    let mine = c.species_number-species.ensures.stands _ _ h.within in
    let foe = c.species_number-foe.ensures.stands _ _ h.within ∙ ap (λ (x : Side). (member_in x p.field).species) c.other.ensures in
    if_so _ _ _ (ap not (sym (c.bides.ensures ∙ ap bides c.effect.ensures) ∙ c.if-bides.false))
    (noted h (λ (f : Field). events.Move (who_in s f) c.args.id (who_in (other s) f))
    (λ told. c.push_untested.ensures.told told (rw (mine, foe) ((member_ok s h.within).species, (member_ok (other s) h.within).species)))
    (rw (mine, foe) refl))
