use Rattle.std.proofs.Common.{◌≡◌}
use Rattle.gen1_layout.proofs.Words.{Bool, ap, arith, choose, false, if_not, if_so, nat_lt, nat_tests, refl, stay, stays, still, true}
use Rattle.gen1_rolls.proofs.Standing.{alike_below}
use Rattle.gen1_machine.specs.HitTest.{hits_below, miss}
use Rattle.gen1_hits.proofs.Knowledge.{drawing_like}
use Rattle.gen1_hits.proofs.hit_tests.draw_below.Goals as goal

pub returns-then-draw_as-byte-clause-shown : goal.returns-then-draw_as-byte-clause-shown
unfolding hits_below
returns-then-draw_as-byte-clause-shown t c told since g p h =
    let below : nat_lt c.draw_as.result c.args.byte ≡ true = grind (arith, nat_tests) in
    drawing_like (hits_below c.args.side c.args.byte) c.draw_as.result h (c.draw_as.ensures.drawn since)
    (λ x is. ap (λ (b : Bool). choose (λ _. b) stay (miss c.args.side)) (alike_below _ _ c.args.byte is))
    (λ a. still a (if_so _ _ _ below (stays a.shows)))

pub returns-clause-shown : goal.returns-clause-shown
unfolding hits_below
returns-clause-shown t c told since g p h =
    let above : nat_lt c.draw_as.result c.args.byte ≡ false = grind (arith, nat_tests) in
    drawing_like (hits_below c.args.side c.args.byte) c.draw_as.result h (c.draw_as.ensures.drawn since)
    (λ x is. ap (λ (b : Bool). choose (λ _. b) stay (miss c.args.side)) (alike_below _ _ c.args.byte is))
    (λ a. still a (if_not _ _ _ above (c.miss.ensures.shown _ _ _ a.shows)))
