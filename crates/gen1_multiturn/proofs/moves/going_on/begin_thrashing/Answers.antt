use Rattle.std.proofs.Common.{◌%◌, ◌+◌}
use Rattle.gen1_layout.proofs.Words.{active_in, ap, arith, drawn_goes, on_active, on_conditions, on_field, put_on_active, put_on_conditions, refl, still, ℕ, ◌▸◌}
use Rattle.gen1_machine.specs.Conditions.{with_thrash}
use Rattle.gen1_machine.specs.GoingOn.{thrash_for}
use Rattle.gen1_machine.specs.Moves.{accuracy_byte}
use Rattle.gen1_machine.specs.State.{with_kept_accuracy}
use Rattle.gen1_hits.proofs.Knowledge.{drawing_like}
use Rattle.gen1_multiturn.proofs.moves.going_on.begin_thrashing.Goals as goal

pub returns-clause-shown : goal.returns-clause-shown
unfolding thrash_for with_thrash with_kept_accuracy on_conditions on_field
returns-clause-shown t c told move is since g p bide trapping h =
    let s = c.args.side in
    let byte = c.draw_as-byte.result in
    drawing_like (thrash_for s move) byte h (c.draw_as-byte.ensures.drawn since)
    (λ x same. ap (λ (n : ℕ). on_conditions s (with_thrash (n + 2)) ▸ on_active s (with_kept_accuracy (accuracy_byte move))) same) (λ d.
    let w = c.put_thrash.ensures.stands _ _ (with_thrash (byte % 2 + 2)) d.shows.within refl (omega arith) bide trapping in
    let a = still {g' = g} d (put_on_conditions d.shows s (with_thrash (byte % 2 + 2)) w) in
    let v = c.put_kept_accuracy.ensures.stands _ _ (with_kept_accuracy (accuracy_byte move)) a.shows.within
    (ap (λ (n : ℕ). record (active_in s (on_conditions s (with_thrash (byte % 2 + 2)) p).field) { kept_accuracy = n }) is) in
    drawn_goes _ _ a (still {g' = g} a (put_on_active a.shows s (with_kept_accuracy (accuracy_byte move)) v)))
