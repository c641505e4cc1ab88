use Rattle.std.proofs.Common.{arith, sym, ◌<◌, ◌∙◌, ◌≡◌}
use Rattle.gen1_layout.specs.Words.{move_at}
use Rattle.gen1_machine.specs.HitTest.{scaled_in}
use Rattle.gen1_odds.specs.Trials.{base_in}
use Rattle.gen1_odds.proofs.Counts.{all-many, hits-many, none-many}
use Rattle.gen1_odds.proofs.chances.passing_draws.Goals as goal

pub returns-in-Some-true-clause-stands : goal.returns-in-Some-true-clause-stands
returns-in-Some-true-clause-stands c g f h =
    let is = rw c.in-Some-true.field-0-test at (c.in-Some-true.ensures.stands g f h) in
    rw (sym is) (sym (all-many 0))

pub returns-in-Some-false-clause-stands : goal.returns-in-Some-false-clause-stands
returns-in-Some-false-clause-stands c g f h =
    let is = rw c.in-Some-false.field-0-test at (c.in-Some-false.ensures.stands g f h) in
    rw (sym is) (sym (none-many 0))

pub returns-in-None-clause-stands : goal.returns-in-None-clause-stands
returns-in-None-clause-stands c g f h =
    let byte : c.scaled_accuracy.result ≡ scaled_in c.args.side (base_in c.args.side (move_at c.args.id) f) f =
    rw (c.base.ensures.stands g f h) at (c.scaled_accuracy.ensures.stands g f h) in
    let fits : scaled_in c.args.side (base_in c.args.side (move_at c.args.id) f) f < 256 = omega (arith, byte, c.scaled_accuracy.type_inv) in
    rw (sym (c.in-None.ensures.stands g f h)) (c.from.ensures ∙ byte ∙ sym (hits-many _ fits))
