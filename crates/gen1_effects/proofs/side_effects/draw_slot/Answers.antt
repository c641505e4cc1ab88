use Rattle.std.proofs.Common.{◌≡◌}
use Rattle.gen1_layout.proofs.Words.{Progress, Side, ap, drawn_seeing, subst, sym, ◌∙◌}
use Rattle.gen1_rolls.specs.declared.rolls.Look.{Look}
use Rattle.gen1_rolls.specs.Streams.{sees}
use Rattle.gen1_machine.specs.Progress.{draw_until, member}
use Rattle.gen1_machine.specs.Sides.{other}
use Rattle.gen1_machine.specs.SideEffects.{disable_slot, names_slot}
use Rattle.gen1_rolls.specs.Draws.{by_then}
use Rattle.gen1_rolls.proofs.Standing.{found_by, missed_by}
use Rattle.gen1_hits.proofs.Knowledge.{drawn_for_none, drawn_until}
use Rattle.gen1_effects.proofs.DisabledSlots.{slot_alike}
use Rattle.gen1_effects.proofs.side_effects.draw_slot.Goals as goal

pub returns-in-Some-clause-shown : goal.returns-in-Some-clause-shown
returns-in-Some-clause-shown t c since g p h =
    let s = c.args.side in
    let moves = (member c.other-foe.result p).moves in
    let within = h.shows.within in
    let any = c.has_pp-any_pp.ensures.stands _ _ within in
    let names = c.named_slots.ensures.stands _ _ within any in
    let found = c.in-Some.ensures.found in
    let named = sym (names c.in-Some.byte) ∙ found.meets in
    drawn_seeing (λ (q : Progress). (member (other s) q).moves) (λ ms. draw_until (names_slot ms) (disable_slot s ms)) (ap (λ (x : Side). (member x p).moves) c.other-foe.ensures)
    (drawn_until (names_slot moves) (disable_slot s moves) c.in-Some.byte h (λ n a. found_by names (found.on (by_then c.disable_slot.ensures.steps since) n a))
    (λ x alike. slot_alike s moves c.has_pp-any_pp.result _ _ any (subst (λ (l : Look). sees l c.in-Some.byte ≡ sees l x) c.slot_look.ensures alike))
    (λ n d. rw c.other-foe.ensures (c.disable_slot.ensures.shown since g _ (rw c.other-foe.ensures at any) (rw c.other-foe.ensures at named) d)))

pub returns-in-None-clause-shown : goal.returns-in-None-clause-shown
returns-in-None-clause-shown t c since g p h =
    let s = c.args.side in
    let moves = (member c.other-foe.result p).moves in
    let within = h.shows.within in
    let names = c.named_slots.ensures.stands _ _ within (c.has_pp-any_pp.ensures.stands _ _ within) in
    drawn_seeing (λ (q : Progress). (member (other s) q).moves) (λ ms. draw_until (names_slot ms) (disable_slot s ms)) (ap (λ (x : Side). (member x p).moves) c.other-foe.ensures)
    (drawn_for_none (names_slot moves) (disable_slot s moves) h (λ n a. missed_by names (c.in-None.ensures.none.on since n a)))
