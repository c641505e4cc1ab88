use Rattle.std.proofs.Common.{◌+◌, ◌≡◌, ◌∙◌}
use Rattle.gen1_layout.proofs.Words.{arith, goes, on_field, put, refl, told_so}
use Rattle.gen1_machine.specs.declared.event.Event.TheVariants as events
use Rattle.gen1_machine.specs.declared.terms.Request.TheVariants as requests
use Rattle.gen1_machine.specs.State.{with_next_turn, with_requests}
use Rattle.gen1_machine.specs.Falls.{ask_for_moves}
use Rattle.gen1_layout.proofs.WaysBack.{taken}
use Rattle.gen1_switching.proofs.falls.ask_for_moves.Goals as goal

pub returns-in-Some-clause-shown : goal.returns-in-Some-clause-shown
unfolding ask_for_moves on_field with_next_turn with_requests
returns-in-Some-clause-shown t c g p left h =
    let first = c.put_next_turn.ensures.stands _ _ h.within left in
    let both = c.put_requests.ensures.stands _ _ first in
    let turn = c.turn.ensures.stands _ _ both in
    let n = p.field.turn + 1 in
    let limit = h.within.terms.limit.1 in
    let number : c.in-Some.number ≡ n = let e = rw turn at c.in-Some.ensures in let f = e ∙ taken 1 9999 n n (omega arith, omega (arith, left, limit)) in cc in
    let a = put h with_next_turn first in
    goes _ _ a (told_so a (with_requests requests.Move requests.Move) (λ f. events.Turn f.turn) both c.push.ensures.told (rw number refl))

pub returns-in_default-clause-shown : goal.returns-in_default-clause-shown
unfolding with_next_turn with_requests
returns-in_default-clause-shown t c g p left h =
    let first = c.put_next_turn.ensures.stands _ _ h.within left in
    let both = c.put_requests.ensures.stands _ _ first in
    let turn = c.turn.ensures.stands _ _ both in
    let n = p.field.turn + 1 in
    let limit = h.within.terms.limit.1 in
    let e = rw turn at c.in_default.ensures in
    let f = e ∙ taken 1 9999 n n (omega arith, omega (arith, left, limit)) in cc
