use Rattle.std.proofs.Common.{◌≡◌}
use Rattle.gen1_layout.proofs.Words.{arith, false, if_not, if_so, nat_lt, nat_tests, seeing, stays, sym, true}
use Rattle.gen1_machine.specs.Landing.{land_by, land_damage}
use Rattle.gen1_hits.proofs.landing.land.Goals as goal

pub returns-then-damage-eq0-clause-shown : goal.returns-then-damage-eq0-clause-shown
returns-then-damage-eq0-clause-shown t c g p h =
    let none : nat_lt 0 c.args.damage ≡ false = grind (arith, nat_tests) in if_not _ _ _ none (stays h)

pub returns-then-land_on_substitute-clause-shown : goal.returns-then-land_on_substitute-clause-shown
unfolding land_damage land_by
returns-then-land_on_substitute-clause-shown t c g p h =
    let hp = c.in-Some.ensures.stands _ _ h.within in
    let some : nat_lt 0 c.args.damage ≡ true = grind (arith, nat_tests) in
    rw (← c.other-target.ensures)
    (if_so _ _ _ some (seeing _ (land_by c.other-target.result c.args.damage) hp (c.if-land_on_substitute.ensures.shown g p (sym hp) h)))

pub returns-else-land_on_substitute-clause-shown : goal.returns-else-land_on_substitute-clause-shown
unfolding land_damage land_by
returns-else-land_on_substitute-clause-shown t c g p h =
    let hp = c.in-Some.ensures.stands _ _ h.within in
    let some : nat_lt 0 c.args.damage ≡ true = grind (arith, nat_tests) in
    rw (← c.other-target.ensures)
    (if_so _ _ _ some (seeing _ (land_by c.other-target.result c.args.damage) hp (c.if-land_on_substitute.ensures.shown g p (sym hp) h)))

pub returns-in-None-clause-shown : goal.returns-in-None-clause-shown
unfolding land_damage land_by
returns-in-None-clause-shown t c g p h =
    let hp = c.in-None.ensures.stands _ _ h.within in
    let some : nat_lt 0 c.args.damage ≡ true = grind (arith, nat_tests) in
    rw (← c.other-target.ensures)
    (if_so _ _ _ some (seeing _ (land_by c.other-target.result c.args.damage) hp (c.land_on_hp.ensures.shown g p h)))
