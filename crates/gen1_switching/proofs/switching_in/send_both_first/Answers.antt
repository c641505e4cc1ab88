use Rattle.std.proofs.Common.{◌≡◌}
use Rattle.gen1_layout.proofs.Words.{Active, ap, lit≤, refl}
use Rattle.gen1_machine.specs.Step.{opened}
use Rattle.gen1_layout.proofs.Storing.{packed_at}
use Rattle.gen1_switching.specs.SwitchingIn.{frame_of}
use Rattle.gen1_switching.proofs.SwitchingIn.{both_begun, free_one, room_two}
use Rattle.gen1_switching.proofs.switching_in.send_both_first.Goals as goal

pub returns-in-Some-clause-shown : goal.returns-in-Some-clause-shown
returns-in-Some-clause-shown t c s empty stands un =
    let place : c.in-Some.first ≡ 1 = let e = c.in-Some.ensures in cc in
    let one = rw place at c.send_first.ensures.shown in
    let two = rw place at c.send_first-in-Some.ensures.shown in
    let a = one (frame_of s) (opened s) (lit≤ tt, un.members_one.size.0) (ap (λ (a : Active). a.conditions.underway.trapping) un.nobody_two)
    (record { packs = packed_at _ s stands un; written = empty; ends = refl; stream = refl; drawn = refl; skips = refl; action = refl }) in
    both_begun s un (two (frame_of s) _ (room_two s un) (free_one s) a)

pub returns-in_default-clause-shown : goal.returns-in_default-clause-shown
returns-in_default-clause-shown t c s empty stands un = let none = c.in_default.ensures in cc
