use Rattle.std.proofs.Common.{ap, not, sym, ℕ, ◌%◌, ◌+◌, ◌∙◌}
use Rattle.gen1_machine.specs.declared.event.Volatile.TheVariants as volatiles
use Rattle.gen1_machine.specs.Conditions.{with_disabled}
use Rattle.gen1_machine.specs.Progress.{fails_if, starts}
use Rattle.gen1_machine.specs.Sides.{other}
use Rattle.gen1_machine.specs.SideEffects.{disable_for, disable_slot}
use Rattle.gen1_layout.proofs.Chain.{drawn_if_so, drawn_stops, still}
use Rattle.gen1_hits.proofs.Knowledge.{drawing_like}
use Rattle.gen1_effects.proofs.Passing.{drawn_past}
use Rattle.gen1_effects.proofs.side_effects.disable_slot.Goals as goal

pub returns-then-not-any_pp-clause-shown : goal.returns-then-not-any_pp-clause-shown
unfolding disable_slot fails_if
returns-then-not-any_pp-clause-shown t c since g p any named h =
    drawn_stops _ _ (drawn_if_so _ _ _ (ap not (sym any ∙ c.if-not-any_pp.true)) (still h (c.fail.ensures.shown _ _ h.shows)))

pub returns-clause-shown : goal.returns-clause-shown
unfolding disable_slot fails_if disable_for
returns-clause-shown t c since g p any named h =
    let does = rw c.other.ensures at c.disable_for.ensures.shown in
    drawn_past _ _ _ (ap not (sym any ∙ c.if-not-any_pp.false)) h
    (drawing_like (disable_for (other c.args.side) c.args.byte) c.draw_as-count.result h (c.draw_as-count.ensures.drawn since)
    (λ x same. ap (λ (n : ℕ). starts (other c.args.side) volatiles.Disable (with_disabled (c.args.byte % 4 + 1) (n + 1))) same) (λ d. still d (does _ _ named d.shows)))
