use Rattle.std.proofs.Common.{◌%◌, ◌+◌, ◌≡◌}
use Rattle.gen1_layout.proofs.Words.{Phase, Progress, ap, choose, choose-false, choose-true, draw, false, nat_le, sym, true, ℕ, ◌∙◌, drawn_next}
use Rattle.gen1_rolls.specs.Streams.{byte_at}
use Rattle.gen1_machine.specs.GoingOn.{count_again, count_by_draw, draw_count}
use Rattle.gen1_status.proofs.Statuses.{at_most, not_at_most}
use Rattle.gen1_rolls.specs.Draws.{by_then}
use Rattle.gen1_multiturn.proofs.move_hits.hit_counts.draw_count.Goals as goal

counted_once : (f : ℕ → Phase) (p : Progress) (d : ℕ) → d % 4 ≡ byte_at p.stream p.drawn % 4 → nat_le (d % 4) 1 ≡ true → draw_count f p ≡ f (d % 4) (record p { drawn = p.drawn + 1 })
unfolding draw_count draw count_by_draw
counted_once f p d at small =
    let q : Progress = record p { drawn = p.drawn + 1 } in
    ap (λ (n : ℕ). choose (λ _. nat_le n 1) (f n) (draw (count_again f)) q) (sym at) ∙ choose-true _ (f (d % 4)) (draw (count_again f)) q small

counted_twice : (f : ℕ → Phase) (p : Progress) (d e : ℕ) → d % 4 ≡ byte_at p.stream p.drawn % 4 → nat_le (d % 4) 1 ≡ false → e % 4 ≡ byte_at p.stream (p.drawn + 1) % 4
    → draw_count f p ≡ f (e % 4) (record p { drawn = p.drawn + 1 + 1 })
unfolding draw_count draw count_by_draw count_again
counted_twice f p d e at large then =
    let q : Progress = record p { drawn = p.drawn + 1 } in
    let r : Progress = record p { drawn = p.drawn + 1 + 1 } in
    ap (λ (n : ℕ). choose (λ _. nat_le n 1) (f n) (draw (count_again f)) q) (sym at) ∙ choose-false _ (f (d % 4)) (draw (count_again f)) q large ∙ ap (λ (n : ℕ). f n r) (sym then)

pub returns-then-first-le1-clause-shown : goal.returns-then-first-le1-clause-shown
returns-then-first-le1-clause-shown t c since g parts events p h =
    let one = drawn_next h (c.draw_as-first.ensures.drawn since) in
    (p.drawn + 1, one.1, λ f. counted_once f p c.draw_as-first.result one.0 (at_most _ _ c.if-first-le1.true))

pub returns-clause-shown : goal.returns-clause-shown
returns-clause-shown t c since g parts events p h =
    let one = drawn_next h (c.draw_as-first.ensures.drawn (by_then c.draw_as.ensures.steps since)) in
    let two = drawn_next one.1 (c.draw_as.ensures.drawn since) in
    (p.drawn + 1 + 1, two.1, λ f. counted_twice f p c.draw_as-first.result c.draw_as.result one.0 (not_at_most _ _ c.if-first-le1.false) two.0)
