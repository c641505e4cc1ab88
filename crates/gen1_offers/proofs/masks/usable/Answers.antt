use Rattle.std.proofs.Common.{Option, Some, arith, nat_lt, subst, ◌≤◌}
use Rattle.gen1_machine.specs.declared.side.DisabledSlot.{DisabledSlot}
use Rattle.gen1_machine.specs.State.{known_in, member_in, conditions_in}
use Rattle.gen1_layout.specs.Shows.{IsStorableDisabled}
use Rattle.gen1_layout.proofs.Steps.{party_in, member_ok}
use Rattle.std.proofs.Common.{length, sym}
use Rattle.gen1_offers.proofs.MaskDigits.{disabled_taken, none_taken, slots_read}
use Rattle.gen1_offers.proofs.masks.usable.Goals as goal

pub returns-in-Some-clause-stands : goal.returns-in-Some-clause-stands
returns-in-Some-clause-stands c g f h block =
    let s = c.args.side in
    let m = member_in s f in
    let ok = (member_ok s h).numbers in
    let all = slots_read m c.args.member.now c.some_of_four-all.result ok block c.some_of_four-all.ensures.digits in
    let e = c.in-Some.ensures.stands g f h in
    let bound : IsStorableDisabled (length m.moves) (Some c.in-Some.disabled) =
    subst (λ (o : Option DisabledSlot). IsStorableDisabled (length m.moves) o) (sym e) (party_in g f s h.storable).active.conditions.disabled in
    let few : c.in-Some.disabled.slot ≤ 4 = omega (arith, bound.0.1, ok.slots.1) in
    disabled_taken (nat_lt 0 (known_in 1 m.moves).pp) (nat_lt 0 (known_in 2 m.moves).pp) (nat_lt 0 (known_in 3 m.moves).pp) (nat_lt 0 (known_in 4 m.moves).pp)
    c.some_of_four-all.result c.in-Some.disabled (conditions_in s f).disabled all few e

pub returns-in-None-clause-stands : goal.returns-in-None-clause-stands
returns-in-None-clause-stands c g f h block =
    let s = c.args.side in
    let m = member_in s f in
    let all = slots_read m c.args.member.now c.some_of_four-all.result (member_ok s h).numbers block c.some_of_four-all.ensures.digits in
    none_taken (nat_lt 0 (known_in 1 m.moves).pp) (nat_lt 0 (known_in 2 m.moves).pp) (nat_lt 0 (known_in 3 m.moves).pp) (nat_lt 0 (known_in 4 m.moves).pp)
    c.some_of_four-all.result (conditions_in s f).disabled all (c.in-None.ensures.stands g f h)
